-- What calls make of parts of a query: something, and the scope number that is next after it; or why there is nothing.
use Rattle.std.specs.Prelude.{◌≡◌, ◌⊎◌, ℕ, ◌^◌, ◌<◌, ◌≤◌, IsOkAnd, Result, Ok, Err, ⊤}
use Rattle.castor_val.specs.declared.memory.Memory.{Memory as NoMemory}
use Rattle.castor_script.specs.declared.step_error.StepError.{StepError}
use Rattle.castor_script.specs.declared.step_error.StepError.TheVariants.{TooLarge, Memory}

abbrev pub Made : Type 0 → Type 0
Made X = Result (X × ℕ) StepError

-- a call gives what is due where its numbers are of 32 bits, and refuses it else; or it has no memory
abbrev pub GivesMade : {X : Type 0} → X × ℕ → Made X → Type 0
GivesMade due (Ok made) = (due ≡ made) × (made.1 ≤ 2 ^ 32)
GivesMade due (Err TooLarge) = 2 ^ 32 < due.1
GivesMade due (Err Memory) = ⊤

-- an operator over what was made, or why that wasn't
abbrev pub MadeFrom : {X Y : Type 0} → (X → Y) → Made X → Made Y → Type 0
MadeFrom operator made (Ok over) = IsOkAnd made (λ x. over ≡ (operator x.0, x.1))
MadeFrom operator made (Err why) = (why ≡ Memory) ⊎ (made ≡ Err why)

-- an operator over what was copied and what was made
abbrev pub MadeOver : {C X Y : Type 0} → (C → X → Y) → Result C NoMemory → Made X → Made Y → Type 0
MadeOver operator copied made (Ok over) = IsOkAnd copied (λ c. IsOkAnd made (λ x. over ≡ (operator c x.0, x.1)))
MadeOver operator copied made (Err why) = (why ≡ Memory) ⊎ (made ≡ Err why)

-- two things of which the second was made after the first, or why the first that wasn't made wasn't
abbrev pub TwoMade : {X Y : Type 0} → Made X → Made Y → Made (X × Y) → Type 0
TwoMade (Ok x) (Ok y) result = result ≡ Ok ((x.0, y.0), y.1)
TwoMade (Ok x) (Err why) result = result ≡ Err why
TwoMade (Err why) second result = result ≡ Err why
