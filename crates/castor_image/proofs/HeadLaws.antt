-- Heads: what is written is read, and what is read is so written.
use Rattle.std.proofs.Common.{◌≡◌, ◌∙◌, ℕ, zero, suc, ◌<◌, ◌≤◌, nat_le, List, [], ◌∷◌, ◌++◌, take, drop, length, Bool, true, false, ◌&&◌, ◌||◌, Some, ap, sym, refl, arith, append_assoc, length-append}
use Rattle.std.specs.List.{list_all}
use Rattle.std.specs.Str.{IsAscii, is_utf8}
use Rattle.std.proofs.lemmas.Bool.{and_parts, and_from, le-leb, leb-true}
use Rattle.std.proofs.lemmas.List.{take_at, drop_at, take-append-drop, length-take-le}
use Rattle.std.proofs.lemmas.Option.{some_pair_parts, none-some}
use Rattle.std.proofs.lemmas.Str.{IsUtf8-from_ascii, is_utf8-from_IsUtf8}
use Rattle.std.proofs.lemmas.Str.Ascii.{IsAscii-cons, IsAscii-nil}
use Rattle.castor_val.specs.declared.column.Column.{Column}
use Rattle.castor_val.specs.declared.value.Ty.{Ty}
use Rattle.castor_val.specs.declared.value.Ty.TheVariants.{Int, Bool as Truth, Text}
use Rattle.castor_code.specs.Pieces.{Piece}
use Rattle.castor_code.specs.Readings.{Read}
use Rattle.castor_code.specs.Steps.{next, when, passing}
use Rattle.castor_code.proofs.StepLaws.{got, next_of, came, when_holds, let_through}
use Rattle.castor_code.proofs.PartLaws.{Again, Taken, many_again, many_taken}
use Rattle.castor_image.specs.declared.head.Head.{Head}
use Rattle.castor_image.specs.Heads.{type_number, is_between, is_letter, is_digit, is_word_byte, is_head_name, column_piece, columns_piece, are_params, are_head_columns, only_where, head_piece}
use Rattle.castor_image.specs.HeadReadings.{type_read, utf8_read, name_read, column_read, columns_read, params_read, head_columns_read, head_read}

-- ---- names are ASCII
or_below : (a b : Bool) (n : ℕ) → (a || b) ≡ true → (a ≡ true → n < 128) → (b ≡ true → n < 128) → n < 128
or_below true b n is left right = left refl
or_below false b n is left right = right is

between_below : (from to n : ℕ) → to < 128 → is_between from to n ≡ true → n < 128
between_below from to n low is = let most : n ≤ to = leb-true n to (and_parts _ _ is).1 in omega arith

letter_below : (n : ℕ) → is_letter n ≡ true → n < 128
letter_below n is =
    or_below (is_between 65 90 n || is_between 97 122 n) (is_between 95 95 n) n is
    (λ l. or_below (is_between 65 90 n) (is_between 97 122 n) n l (between_below 65 90 n (omega arith)) (between_below 97 122 n (omega arith)))
    (between_below 95 95 n (omega arith))

word_below : (n : ℕ) → is_word_byte n ≡ true → n < 128
word_below n is = or_below (is_letter n) (is_digit n) n is (letter_below n) (between_below 48 57 n (omega arith))

words_ascii : (bs : List ℕ) → list_all is_word_byte bs ≡ true → IsAscii bs
words_ascii [] is = IsAscii-nil
words_ascii (b ∷ bs) is = let tests = and_parts (is_word_byte b) (list_all is_word_byte bs) is in IsAscii-cons b bs (word_below b tests.0) (words_ascii bs tests.1)

name_utf8 : (t : List ℕ) → is_head_name t ≡ true → is_utf8 t ≡ true
name_utf8 [] is = absurd cc
name_utf8 (b ∷ bs) is =
    let tests = and_parts _ _ (and_parts (is_letter b && list_all is_word_byte bs) _ is).0 in
    is_utf8-from_IsUtf8 (b ∷ bs) (IsUtf8-from_ascii (b ∷ bs) (IsAscii-cons b bs (letter_below b tests.0) (words_ascii bs tests.1)))

-- ---- texts
pub utf8_again : (t rest : List ℕ) → is_utf8 t ≡ true → utf8_read (length t) (t ++ rest) ≡ Some (t, rest)
utf8_again t rest ok =
    let begins : take (length t) (t ++ rest) ≡ t = take_at t rest (length t) refl in
    let ends : drop (length t) (t ++ rest) ≡ rest = drop_at t rest (length t) refl in
    let long : nat_le (length t) (length (t ++ rest)) ≡ true = le-leb _ _ (omega (arith, length-append t rest)) in
    when_holds _ _ (and_from _ _ long (ap is_utf8 begins ∙ ok)) ∙ ap (λ (x : List ℕ). got x (drop (length t) (t ++ rest))) begins ∙ ap (got t) ends

pub utf8_taken : (n : ℕ) (bs rest t : List ℕ) → utf8_read n bs ≡ Some (t, rest) → (length t ≡ n) × (bs ≡ t ++ rest)
utf8_taken n bs rest t is =
    let found = let_through (nat_le n (length bs) && is_utf8 (take n bs)) (take n bs) t (drop n bs) rest is in
    let tests = and_parts _ _ found.holds in (
      ap length (sym found.value) ∙ length-take-le n bs (leb-true _ _ tests.0),
      sym (take-append-drop n bs) ∙ ap (λ xs. xs ++ drop n bs) found.value ∙ ap (λ xs. t ++ xs) found.left,
    )

name_again : (t rest : List ℕ) → is_head_name t ≡ true → name_read (length t ∷ (t ++ rest)) ≡ Some (t, rest)
name_again t rest ok = next_of _ _ _ _ (utf8_again t rest (name_utf8 t ok)) ∙ when_holds _ _ ok

name_taken : (bs rest t : List ℕ) → name_read bs ≡ Some (t, rest) → (is_head_name t ≡ true) × (bs ≡ length t ∷ (t ++ rest))
name_taken [] rest t is = absurd (none-some _ is)
name_taken (n ∷ bs) rest t is =
    let b = came (utf8_read n bs) (λ x s. when (is_head_name x) (x, s)) (t, rest) is in
    let found = let_through (is_head_name b.first) b.first t b.left rest b.answer in
    let text = utf8_taken n bs b.left b.first b.read in (
      ap is_head_name (sym found.value) ∙ found.holds,
      ap (λ (m : ℕ). m ∷ bs) (sym text.0) ∙ ap (λ (xs : List ℕ). length b.first ∷ xs) text.1 ∙ ap (λ (x : List ℕ). length x ∷ (x ++ b.left)) found.value ∙ ap (λ (xs : List ℕ). length t ∷ (t ++ xs)) found.left,
    )

-- ---- columns
type_again : (t : Ty) (rest : List ℕ) → type_read (type_number t ∷ rest) ≡ Some (t, rest)
type_again Int rest = refl
type_again Truth rest = refl
type_again Text rest = refl

type_taken : (bs rest : List ℕ) (t : Ty) → type_read bs ≡ Some (t, rest) → bs ≡ type_number t ∷ rest
type_taken [] rest t is = absurd (none-some _ is)
type_taken (zero ∷ bs) rest t is = let parts = some_pair_parts _ _ _ _ is in ap (λ (u : Ty). type_number u ∷ bs) parts.0 ∙ ap (λ (xs : List ℕ). type_number t ∷ xs) parts.1
type_taken (suc zero ∷ bs) rest t is = let parts = some_pair_parts _ _ _ _ is in ap (λ (u : Ty). type_number u ∷ bs) parts.0 ∙ ap (λ (xs : List ℕ). type_number t ∷ xs) parts.1
type_taken (suc (suc zero) ∷ bs) rest t is = let parts = some_pair_parts _ _ _ _ is in ap (λ (u : Ty). type_number u ∷ bs) parts.0 ∙ ap (λ (xs : List ℕ). type_number t ∷ xs) parts.1
type_taken (suc (suc (suc n)) ∷ bs) rest t is = absurd (none-some _ is)

column_again : Again column_piece column_read
column_again c rest ok = next_of _ _ _ _ (type_again c.ty (length c.name ∷ (c.name ++ rest))) ∙ next_of _ _ _ _ (name_again c.name rest ok)

column_taken : Taken column_piece column_read
column_taken bs rest c is =
    let ty = came (type_read bs) (λ ty rest. next (name_read rest) (λ name more. got (record { name = name; ty = ty }) more)) (c, rest) is in
    let name = came (name_read ty.left) (λ name more. got (record { name = name; ty = ty.first }) more) (c, rest) ty.answer in
    let found = some_pair_parts _ _ _ _ name.answer in
    let text = name_taken ty.left name.left name.first name.read in (
      ap (λ (x : Column). is_head_name x.name) (sym found.0) ∙ text.0,
      type_taken bs ty.left ty.first ty.read ∙ ap (λ (xs : List ℕ). type_number ty.first ∷ xs) text.1 ∙ ap (λ (x : Column). (column_piece x).bytes ++ name.left) found.0 ∙ ap (λ (xs : List ℕ). (column_piece c).bytes ++ xs) found.1,
    )

columns_again : Again columns_piece columns_read
columns_again cs rest ok = many_again column_piece column_read column_again cs rest ok

columns_taken : Taken columns_piece columns_read
columns_taken [] rest cs is = absurd (none-some _ is)
columns_taken (n ∷ bs) rest cs is =
    let all = many_taken column_piece column_read column_taken n bs rest cs is in
    (all.1, ap (λ (m : ℕ). m ∷ bs) (sym all.0) ∙ ap (λ (xs : List ℕ). length cs ∷ xs) all.2)

-- ---- heads
module _ {X : Type 0} (test : X → Bool) (write : X → Piece) (read : List ℕ → Read X) where
  passing_again : Again write read → Again (λ x. only_where (test x) (write x)) (passing test read)
  passing_again law x rest ok =
      let tests = and_parts (test x) (write x).fits ok in
      next_of _ _ _ _ (law x rest tests.1) ∙ when_holds _ _ tests.0

  passing_taken : Taken write read → Taken (λ x. only_where (test x) (write x)) (passing test read)
  passing_taken law bs rest x is =
      let b = came (read bs) (λ y s. when (test y) (y, s)) (x, rest) is in
      let found = let_through (test b.first) b.first x b.left rest b.answer in
      let all = law bs b.left b.first b.read in (
        ap (λ (y : X). test y && (write y).fits) (sym found.value) ∙ and_from _ _ found.holds all.0,
        all.1 ∙ ap (λ (y : X). (write y).bytes ++ b.left) found.value ∙ ap (λ (xs : List ℕ). (write x).bytes ++ xs) found.left,
      )

pub head_again : Again head_piece head_read
head_again h rest ok =
    let params = only_where (are_params h.params) (columns_piece h.params) in
    let columns = only_where (are_head_columns h.columns) (columns_piece h.columns) in
    let tests = and_parts params.fits columns.fits ok in
    ap head_read (append_assoc params.bytes columns.bytes rest)
    ∙ next_of _ _ _ _ (passing_again are_params columns_piece columns_read columns_again h.params (columns.bytes ++ rest) tests.0)
    ∙ next_of _ _ _ _ (passing_again are_head_columns columns_piece columns_read columns_again h.columns rest tests.1)

pub head_taken : Taken head_piece head_read
head_taken bs rest h is =
    let a = came (params_read bs) (λ ps s. next (head_columns_read s) (λ cs more. got (record { params = ps; columns = cs }) more)) (h, rest) is in
    let b = came (head_columns_read a.left) (λ cs more. got (record { params = a.first; columns = cs }) more) (h, rest) a.answer in
    let found = some_pair_parts _ _ _ _ b.answer in
    let params = passing_taken are_params columns_piece columns_read columns_taken bs a.left a.first a.read in
    let columns = passing_taken are_head_columns columns_piece columns_read columns_taken a.left b.left b.first b.read in
    let one : Head = record { params = a.first; columns = b.first } in (
      ap (λ (x : Head). (head_piece x).fits) (sym found.0) ∙ and_from _ _ params.0 columns.0,
      params.1 ∙ ap (λ (xs : List ℕ). (columns_piece a.first).bytes ++ xs) columns.1 ∙ sym (append_assoc (columns_piece a.first).bytes (columns_piece b.first).bytes b.left)
          ∙ ap (λ (x : Head). (head_piece x).bytes ++ b.left) found.0 ∙ ap (λ (xs : List ℕ). (head_piece h).bytes ++ xs) found.1,
    )
