-- What calls that read images give.
use Rattle.std.specs.Prelude.{◌≡◌, ◌⊎◌, ℕ, List, [], ◌∷◌, Option, Some, None, Result, MatchResult}
use Rattle.castor_alg.specs.declared.held.Held.{Held, Parts}
use Rattle.castor_code.specs.Readings.{Reader}
use Rattle.castor_code.specs.Steps.{next}
use Rattle.castor_image.specs.declared.error.OpenError.{OpenError}
use Rattle.castor_image.specs.declared.error.OpenError.TheVariants.{NotImage, Memory}

-- what is read is what is due, and leaves what is left; else nothing is due, or there was no memory
abbrev pub Takes : {T X : Type 0} → (T → X) → Option (X × List ℕ) → List ℕ → Result T OpenError → Type 0
Takes view due left r = MatchResult r (λ t. due ≡ Some (view t, left)) (λ e. (e ≡ Memory) ⊎ ((e ≡ NotImage) × (due ≡ None)))

-- the second of two parts, whose first was read
abbrev pub second_read : Held → Reader → Reader
second_read first kid bs = next (kid bs) (λ h rest. Some (Parts (first ∷ h ∷ []), rest))
