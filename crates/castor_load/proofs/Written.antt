-- What one more field and the end of a record do to a text.
use Rattle.std.proofs.Common.{◌≡◌, ◌∙◌, ◌∷◌, ◌++◌, ◌+◌, ◌<◌, ◌≤◌, ◌==◌, [], List, ℕ, length, take, take_all, get_or, refl, sym, ap, append_assoc, append-nil, length-append, eq-eqb, ne_eqb, arith}
use Rattle.csv.specs.Writing.{default_writer, escaped, field_text, fields_text, is_blank, next_sep, quoted, row_body, row_text}
use Rattle.csv.proofs.WriteFacts.{escaped-other, quoted-step, row-more}
use Rattle.castor_load.specs.Words.{Record}
use Rattle.castor_load.specs.Written.{HasWritten, record_ending}

-- one more field
pub one_field : (text new before : List ℕ) (fields : Record) (field : List ℕ) → HasWritten text before fields
    → new ≡ text ++ (next_sep default_writer (length fields) ++ field_text default_writer field) → HasWritten new before (fields ++ field ∷ [])
one_field text new before fields field has more =
    let next = next_sep default_writer (length fields) ++ field_text default_writer field in
    more ∙ ap (λ t. t ++ next) has ∙ append_assoc before (row_body default_writer fields) next ∙ ap (λ t. before ++ t) (sym (row-more default_writer fields field))

-- a record shows no byte exactly where it is blank
blank_body : (fields : Record) → (length (row_body default_writer fields) == 0) ≡ is_blank default_writer fields
unfolding fields_text is_blank
blank_body [] = refl
blank_body (field ∷ []) = rw (append-nil (field_text default_writer field)) refl
blank_body (field ∷ next ∷ rest) = ne_eqb (length (row_body default_writer (field ∷ next ∷ rest))) 0
    (λ none. let size = length-append (field_text default_writer field) (fields_text default_writer (next ∷ rest)) in omega (arith, size))

-- what is behind a text is empty where its length is the text's
same_length : (before body : List ℕ) → (length (before ++ body) == length before) ≡ (length body == 0)
same_length before [] = rw (append-nil before) (eq-eqb (length before) (length before) refl)
same_length before (b ∷ body) =
    ne_eqb (length (before ++ b ∷ body)) (length before) (λ same. let size = length-append before (b ∷ body) in omega (arith, size))
    ∙ sym (ne_eqb (length (b ∷ body)) 0 (λ none. cc none))

-- the end of a record
pub record_end : (text new before : List ℕ) (fields : Record) (start : ℕ) → length before ≡ start → HasWritten text before fields
    → new ≡ text ++ record_ending (length text == start) → new ≡ before ++ row_text default_writer fields
record_end text new before fields start at has end =
    let body = row_body default_writer fields in
    let blank : (length text == start) ≡ is_blank default_writer fields = rw (has, sym at) (same_length before body) ∙ blank_body fields in
    end ∙ rw (blank, has) (append_assoc before body (record_ending (is_blank default_writer fields)))

-- one byte of a field between quotes
pub byte-quote : (text between new : List ℕ) (b : ℕ) → b ≡ 34 → between ≡ text ++ 34 ∷ [] → new ≡ between ++ b ∷ [] → new ≡ text ++ escaped default_writer (b ∷ [])
unfolding escaped
byte-quote text between new b is first second = second ∙ rw (first, is) (append_assoc text (34 ∷ []) (34 ∷ []))

pub byte-other : (text new : List ℕ) (b : ℕ) → (b ≡ 34 → ⊥) → new ≡ text ++ b ∷ [] → new ≡ text ++ escaped default_writer (b ∷ [])
byte-other text new b other only = only ∙ ap (λ t. text ++ t) (sym (escaped-other default_writer b other))

-- the bytes of a field behind a quote
pub quoted-start : (text field : List ℕ) → text ++ 34 ∷ [] ≡ text ++ 34 ∷ escaped default_writer (take 0 field)
unfolding escaped
quoted-start text field = refl

pub quoted-more : (text new before field : List ℕ) (i b : ℕ) → i < length field → b ≡ get_or field i 0 → text ≡ before ++ 34 ∷ escaped default_writer (take i field)
    → new ≡ text ++ escaped default_writer (b ∷ []) → new ≡ before ++ 34 ∷ escaped default_writer (take (i + 1) field)
quoted-more text new before field i b lt is so more =
    more ∙ rw (so, is) (append_assoc before (34 ∷ escaped default_writer (take i field)) (escaped default_writer (get_or field i 0 ∷ []))
    ∙ ap (λ t. before ++ t) (quoted-step default_writer 34 field i lt))

pub quoted-end : (text new before field : List ℕ) (i : ℕ) → length field ≤ i → text ≡ before ++ 34 ∷ escaped default_writer (take i field)
    → new ≡ text ++ 34 ∷ [] → new ≡ before ++ quoted default_writer field
quoted-end text new before field i le so end =
    let all : take i field ≡ field = take_all _ _ le in
    end ∙ rw (so, all) (append_assoc before (34 ∷ escaped default_writer field) (34 ∷ []))
