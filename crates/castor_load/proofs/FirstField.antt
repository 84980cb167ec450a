-- The first field of a line and the others.
use Rattle.std.proofs.Common.{◌≡◌, ◌∷◌, ◌+◌, ◌≤◌, [], ℕ, suc, List, Option, Some, None, length, take, drop, position, nat_lt, refl, inl, inr, arith}
use Rattle.std.specs.List.{slice_split, position_or_len}
use Rattle.std.proofs.lemmas.Bool.{cases_Bool, ltb-true, ltb-false}
use Rattle.std.proofs.lemmas.List.Splits.{slice_split_first}
use Rattle.castor_load.specs.Plain.{fields_between, is_comma}

-- a comma that a search finds ends the first field
pub field_before : (line : List ℕ) (at : ℕ) → Some at ≡ position is_comma line → fields_between line ≡ take at line ∷ fields_between (drop (at + 1) line)
field_before line at e =
    elim (cases_Bool (nat_lt (position_or_len is_comma line) (length line))) [
      | inl lt ↦
          let h : Some at ≡ Some (position_or_len is_comma line) = rw lt at e in
          let is : at ≡ position_or_len is_comma line = cc h in
          rw is (slice_split_first is_comma line 0 (ltb-true _ _ lt))
      | inr ge ↦ absurd (let h : Some at ≡ None = rw ge at e in cc h)
    ]

whole : (line : List ℕ) → length line ≤ position_or_len is_comma line → slice_split is_comma line ≡ line ∷ []
whole [] le = refl
whole (c ∷ rest) le =
    elim (cases_Bool (is_comma c)) [
      | inl comma ↦ absurd (let h : suc (length rest) ≤ 0 = rw comma at le in omega arith)
      | inr other ↦
          let h : suc (length rest) ≤ 1 + position_or_len is_comma rest = rw other at le in
          rw (other, whole rest (omega arith)) refl
    ]

-- a line with no comma is one field
pub field_whole : (line : List ℕ) → None ≡ position is_comma line → fields_between line ≡ line ∷ []
field_whole line e =
    elim (cases_Bool (nat_lt (position_or_len is_comma line) (length line))) [
      | inl lt ↦ absurd (let h : ◌≡◌ {A = Option ℕ} None (Some (position_or_len is_comma line)) = rw lt at e in cc h)
      | inr ge ↦ whole line (ltb-false _ _ ge)
    ]
