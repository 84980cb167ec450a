-- What calls that read codes give.
use Rattle.std.specs.Prelude.{◌≡◌, ◌⊎◌, ℕ, List, [], Option, Some, None, Result, Ok, Err, is_ok, MatchResult, true}
use Rattle.castor_code.specs.declared.code.Code.{Code}
use Rattle.castor_code.specs.declared.decoding.CodeError.{CodeError}
use Rattle.castor_code.specs.declared.decoding.CodeError.TheVariants.{NotCode, Memory}
use Rattle.castor_code.specs.declared.decoding.Input.{Input as Left}
use Rattle.castor_code.specs.CodeForms.{code_bytes, is_well_formed}
use Rattle.castor_code.specs.CodeReadings.{Input}

-- what is left to read
abbrev pub seen : Left → Input
seen left = record { bytes = left.rest.now; nodes = left.nodes }

-- what is read is what is due, and leaves what is left; else nothing is due, or there was no memory
abbrev pub Takes : {T X : Type 0} → (T → X) → Option (X × Input) → Input → Result T CodeError → Type 0
Takes view due left r = MatchResult r (λ t. due ≡ Some (view t, left)) (λ e. (e ≡ Memory) ⊎ ((e ≡ NotCode) × (due ≡ None)))

-- the bytes are no well-formed code
abbrev pub IsNoCode : List ℕ → Type 0
IsNoCode bytes = (c : Code) → is_well_formed c ≡ true → bytes ≡ code_bytes c → ⊥

-- the code that was read, where nothing is left behind it; else no code
abbrev pub EndsWith : Result Code CodeError → List ℕ → Result Code CodeError → Type 0
EndsWith read rest r = MatchResult r (λ c. (read ≡ Ok c) × (rest ≡ [])) (λ e. (read ≡ Err e) ⊎ ((e ≡ NotCode) × ((is_ok read ≡ true) × (rest ≡ [] → ⊥))))
