-- Nodes by their tags.
use Rattle.std.proofs.Common.{◌≡◌, ℕ, ◌-◌, ◌≤◌, List, length, Bool, if◌then◌else◌, Option, Some, None, Bor, slice_get, ap, sym, refl}
use Rattle.std.specs.Option.{option_copied}
use Rattle.std.specs.Slice.{IsItemAt}
use Rattle.std.proofs.lemmas.Bool.{ltb-false, le-ltb, ltb-true}
use Rattle.std.proofs.lemmas.Option.{slice_get_past, slice_get_read}
use Rattle.castor_code.specs.CodeReadings.{code_tags, code_tag}

-- what a slice gives at a place
pub looked_up : {X : Type 0} (xs : List X) (i : ℕ) (r : Option (Bor X)) → IsItemAt xs i r → option_copied r ≡ slice_get xs i
looked_up xs i None is = sym (slice_get_past xs i (ltb-false i (length xs) (sym is.0)))
looked_up xs i (Some x) is = sym (slice_get_read xs (length xs) i x.now refl (ltb-true i (length xs) (sym is.0)) is.1)

-- the tag of a node of a code is its place, from 1
pub code_tag_at : (n : ℕ) → 1 ≤ n → slice_get code_tags (n - 1) ≡ code_tag n
code_tag_at n le = sym (ap (λ (b : Bool). if b then None else slice_get code_tags (n - 1)) (le-ltb n 1 le))
