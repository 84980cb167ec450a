-- What the steps that open an image give.
use Rattle.std.specs.Prelude.{◌≡◌, ◌⊎◌, ℕ, List, [], Result, MatchResult, Some, true, false}
use Rattle.castor_val.specs.Columns.{types_of}
use Rattle.castor_val.specs.declared.column.Column.{Column}
use Rattle.castor_val.specs.declared.value.Ty.{Ty}
use Rattle.castor_alg.specs.Typing.{same_types}
use Rattle.castor_alg.specs.declared.held.Held.{Held}
use Rattle.castor_alg.specs.declared.typing.TypeError.{TypeError}
use Rattle.castor_alg.specs.declared.typing.TypeError.TheVariants as ill
use Rattle.castor_code.specs.declared.code.Code.{Code}
use Rattle.castor_code.specs.CodeForms.{code_bytes, is_well_formed}
use Rattle.castor_code.specs.Data.{data_read}
use Rattle.castor_image.specs.declared.error.OpenError.{OpenError}
use Rattle.castor_image.specs.declared.error.OpenError.TheVariants.{NotImage, Memory}
use Rattle.castor_image.specs.declared.head.Head.{Head}
use Rattle.castor_image.specs.Images.{fits_head}

-- a code and held data are those of the bytes behind a head
pub record IsLayout (head : Head) (code_part data_part : List ℕ) (code : Code) (held : Held) : Type 0 where
  pub formed : is_well_formed code ≡ true
  pub code_is : code_part ≡ code_bytes code
  pub typed : fits_head code head ≡ true
  pub data_is : data_read code data_part ≡ Some (held, [])

-- what the bytes behind a head hold was opened; or they hold nothing, or there was no memory
abbrev pub Opens : {T : Type 0} → Head → List ℕ → List ℕ → (T → Head) → (T → Code) → (T → Held) → Result T OpenError → Type 0
Opens head code_part data_part head_of code_of held_of r = MatchResult r
    (λ i. (head_of i ≡ head) × IsLayout head code_part data_part (code_of i) (held_of i))
    (λ e. (e ≡ Memory) ⊎ ((e ≡ NotImage) × ((code : Code) (held : Held) → IsLayout head code_part data_part code held → ⊥)))

-- the types are there and are those of the columns; or they aren't, or there was no memory
abbrev pub ChecksColumns : {T : Type 0} → (T → List Ty) → List Column → Result T TypeError → Result (Unit {0}) OpenError → Type 0
ChecksColumns view columns types r = MatchResult types
    (λ found. MatchResult r (λ u. same_types (view found) (types_of columns) ≡ true) (λ e. (e ≡ Memory) ⊎ ((e ≡ NotImage) × (same_types (view found) (types_of columns) ≡ false))))
    (λ why. MatchResult r (λ u. ⊥) (λ e. (e ≡ Memory) ⊎ ((e ≡ NotImage) × (why ≡ ill.Ill))))
