-- A plain line is one record of `csv`, whose fields stand between its commas.
use Rattle.std.proofs.Common.{inl, inr, ◌≡◌, ◌∙◌, ◌==◌, ◌&&◌, ◌||◌, ◌++◌, ◌∷◌, [], ℕ, List, Bool, Some, true, false, if◌then◌else◌, not, length, refl, ap, append_assoc, append-nil, add-one, zero, suc}
use Rattle.std.specs.List.{list_any, onto_first, slice_split}
use Rattle.std.proofs.lemmas.Bool.{cases_Bool}
use Rattle.csv.specs.Machine.{next_record}
use Rattle.csv.specs.Reading.{default_config, records, records_from, strip_bom}
use Rattle.csv.specs.declared.parser.State.TheVariants as st
use Rattle.castor_load.specs.Plain.{fields_between, has_mark, is_comma, is_plain, is_special}

-- bytes put before the first of some fields
abbrev onto_front : List ℕ → List (List ℕ) → List (List ℕ)
onto_front front [] = front ∷ []
onto_front front (field ∷ more) = (front ++ field) ∷ more

onto_front-more : (front : List ℕ) (c : ℕ) (fields : List (List ℕ)) → onto_front (front ++ c ∷ []) fields ≡ onto_front front (onto_first c fields)
onto_front-more front c [] = refl
onto_front-more front c (field ∷ more) = ap (λ f. f ∷ more) (append_assoc front (c ∷ []) field)

onto_front-none : (line : List ℕ) → onto_front [] (slice_split is_comma line) ≡ slice_split is_comma line
onto_front-none [] = refl
onto_front-none (c ∷ rest) = by (slice_split is_comma rest) (is_comma c)
  where
    by : (parts : List (List ℕ)) (b : Bool) → onto_front [] (if b then [] ∷ parts else onto_first c parts) ≡ (if b then [] ∷ parts else onto_first c parts)
    by parts true = refl
    by [] false = refl
    by (part ∷ parts) false = refl

-- the parts of a Bool that is false
or_false : (a b : Bool) → (a || b) ≡ false → (a ≡ false) × (b ≡ false)
or_false false b e = (refl, e)
or_false true b e = absurd (cc e)

and_true : (a b : Bool) → (a && b) ≡ true → (a ≡ true) × (b ≡ true)
and_true true b e = (refl, e)
and_true false b e = absurd (cc e)

not_true : (a : Bool) → not a ≡ true → a ≡ false
not_true false e = refl
not_true true e = absurd (cc e)

-- a byte that isn't special starts a field as it goes on with one
start_field : (fields : List (List ℕ)) (field line : List ℕ) → list_any is_special line ≡ false
    → next_record default_config st.StartField fields field line ≡ next_record default_config st.InField fields field line
unfolding next_record
start_field fields field [] plain = refl
start_field fields field (c ∷ rest) plain =
    let parts = or_false (is_special c) (list_any is_special rest) plain in
    let ends = or_false ((c == 34) || (c == 13)) (c == 10) parts.0 in
    let quote = or_false (c == 34) (c == 13) ends.0 in
    rw quote.0 refl

-- the walk over the bytes, within a field
in_field : (fields : List (List ℕ)) (field line : List ℕ) → list_any is_special line ≡ false
    → next_record default_config st.InField fields field line ≡ Some (fields ++ onto_front field (slice_split is_comma line), st.StartRecord, [])
unfolding next_record
in_field fields field [] plain = rw (append-nil field) refl
in_field fields field (c ∷ rest) plain =
    let parts = or_false (is_special c) (list_any is_special rest) plain in
    let feed = or_false ((c == 34) || (c == 13)) (c == 10) parts.0 in
    let ends = or_false (c == 34) (c == 13) feed.0 in
    elim (cases_Bool (c == 44)) [
      | inl comma ↦
          rw (comma, append-nil field) (start_field (fields ++ field ∷ []) [] rest parts.1
          ∙ in_field (fields ++ field ∷ []) [] rest parts.1
          ∙ ap (λ f. Some (f, st.StartRecord, [])) (ap (λ f. (fields ++ field ∷ []) ++ f) (onto_front-none rest) ∙ append_assoc fields (field ∷ []) (slice_split is_comma rest)))
      | inr other ↦
          rw (other, ends.1, feed.1) (in_field fields (field ++ c ∷ []) rest parts.1
          ∙ ap (λ f. Some (fields ++ f, st.StartRecord, [])) (onto_front-more field c (slice_split is_comma rest)))
    ]

-- a byte that ends no record starts one as it starts a field
start_record : (line : List ℕ) → (length line == 0) ≡ false → list_any is_special line ≡ false
    → next_record default_config st.StartRecord [] [] line ≡ next_record default_config st.StartField [] [] line
unfolding next_record
start_record [] some plain = absurd (cc some)
start_record (c ∷ rest) some plain =
    let parts = or_false (is_special c) (list_any is_special rest) plain in
    let feed = or_false ((c == 34) || (c == 13)) (c == 10) parts.0 in
    let ends = or_false (c == 34) (c == 13) feed.0 in
    rw (ends.1, feed.1) refl

-- no record is left at the end of a text
none_left : (n : ℕ) → records_from default_config n st.StartRecord [] ≡ []
unfolding records_from next_record
none_left zero = refl
none_left (suc n) = refl

-- a line that has a byte, and none that is special, is one record
one_record : (line : List ℕ) → (length line == 0) ≡ false → list_any is_special line ≡ false → records default_config line ≡ fields_between line ∷ []
unfolding records_from next_record
one_record line some plain =
    let first : next_record default_config st.StartRecord [] [] line ≡ Some (fields_between line, st.StartRecord, []) =
    start_record line some plain ∙ start_field [] [] line plain ∙ in_field [] [] line plain ∙ ap (λ f. Some (f, st.StartRecord, [])) (onto_front-none line) in
    rw (add-one (length line), first) (ap (λ more. fields_between line ∷ more) (none_left (length line)))

-- a text with no byte order mark stays as it is
no_mark : (line : List ℕ) → has_mark line ≡ false → strip_bom line ≡ line
unfolding strip_bom
no_mark [] e = refl
no_mark (a ∷ []) e = refl
no_mark (a ∷ b ∷ []) e = refl
no_mark (a ∷ b ∷ c ∷ rest) e = rw e refl

-- the law
pub plain_record : (line : List ℕ) → is_plain line ≡ true → records default_config (strip_bom line) ≡ fields_between line ∷ []
plain_record line plain =
    let parts = and_true (not (length line == 0) && not (has_mark line)) (not (list_any is_special line)) plain in
    let first = and_true (not (length line == 0)) (not (has_mark line)) parts.0 in
    ap (λ text. records default_config text) (no_mark line (not_true (has_mark line) first.1))
    ∙ one_record line (not_true (length line == 0) first.0) (not_true (list_any is_special line) parts.1)
