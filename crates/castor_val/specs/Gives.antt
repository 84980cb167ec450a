-- A call that gives what is due, or has no memory for it.
use Rattle.std.specs.Prelude.{◌≡◌, ◌⊎◌, Result, Ok, Err, MatchResult}

-- the call's answer, seen as contracts see it, is what is due, or else want of memory
abbrev pub Gives : {T X E : Type 0} → (T → X) → E → Result X E → Result T E → Type 0
Gives view memory due r = MatchResult r (λ t. due ≡ Ok (view t)) (λ e. (e ≡ memory) ⊎ (due ≡ Err e))
