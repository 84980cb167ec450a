-- What was made, and what is due.
use Rattle.std.proofs.Common.{◌≡◌, ◌∙◌, ℕ, ◌^◌, ◌<◌, ◌≤◌, sym, ap, subst, ◌⊎◌, inl, inr, Result, Ok, Err, arith}
use Rattle.std.specs.Prelude.{IfOk}
use Rattle.castor_val.specs.declared.memory.Memory.{Memory as NoMemory}
use Rattle.castor_script.specs.declared.step_error.StepError.{StepError}
use Rattle.castor_script.specs.declared.step_error.StepError.TheVariants.{TooLarge, Memory}
use Rattle.castor_script.specs.Made.{GivesMade, Made, MadeFrom, MadeOver}

-- a copy of this, if there is one
abbrev pub Copies : {C : Type 0} → C → Result C NoMemory → Type 0
Copies c copied = IfOk copied (λ copy. copy ≡ c)

pub both_copied : {A B : Type 0} (x : A) (y : B) (a : Result A NoMemory) (b : Result B NoMemory) (pair : Result (A × B) NoMemory) → IfOk pair (λ p. a ≡ Ok p.0) → IfOk pair (λ p. b ≡ Ok p.1) → Copies x a → Copies y b → Copies (x, y) pair
both_copied x y (Ok u) (Ok v) (Ok pair) first second left right =
    let one : u ≡ pair.0 = cc in
    let two : v ≡ pair.1 = cc in
    λ i. ((sym one ∙ left) i, (sym two ∙ right) i)
both_copied x y (Err e) b (Ok pair) first second left right = cc
both_copied x y (Ok u) (Err e) (Ok pair) first second left right = cc
both_copied x y a b (Err e) first second left right = tt

pub box_copied : {A : Type 0} (x : A) (copied kept : Result A NoMemory) → IfOk kept (λ k. copied ≡ Ok k) → Copies x copied → Copies x kept
box_copied x (Ok copy) (Ok kept) is same = let one : copy ≡ kept = cc in sym one ∙ same
box_copied x (Err e) (Ok kept) is same = cc
box_copied x copied (Err e) is same = tt

-- what is due elsewhere isn't made where a part of it isn't
pub refused : {X Y : Type 0} (under : X × ℕ) (due : Y × ℕ) (made : Made X) (why : StepError) → under.1 ≤ due.1 → GivesMade under made → (why ≡ Memory) ⊎ (made ≡ Err why) → GivesMade due (Err why)
refused under due made Memory below gives is = tt
refused under due made TooLarge below gives (inl is) = cc
refused {X} under due made TooLarge below gives (inr is) =
    let past : 2 ^ 32 < under.1 = subst (λ (m : Made X). GivesMade under m) is gives in
    omega arith

pub at_most : (n : ℕ) → n ≤ n
at_most n = omega arith

pub within_as : {X : Type 0} (a b : X × ℕ) → a ≡ b → b.1 ≤ 2 ^ 32 → a.1 ≤ 2 ^ 32
within_as {X} a b is below = subst (λ (m : X × ℕ). m.1 ≤ 2 ^ 32) (sym is) below

pub from_due : {X Y : Type 0} (operator : X → Y) (due : X × ℕ) (made : Made X) (result : Made Y) → GivesMade due made → MadeFrom operator made result → GivesMade (operator due.0, due.1) result
from_due operator due (Ok made) (Ok over) (is, below) from = (ap (λ d. (operator d.0, d.1)) is ∙ sym from, within_as over (operator made.0, made.1) from below)
from_due operator due (Err why) (Ok over) gives from = absurd from
from_due operator due made (Err why) gives from = refused due (operator due.0, due.1) made why (at_most due.1) gives from

pub over_due : {C X Y : Type 0} (operator : C → X → Y) (c : C) (due : X × ℕ) (copied : Result C NoMemory) (made : Made X) (result : Made Y) → Copies c copied → GivesMade due made → MadeOver operator copied made result → GivesMade (operator c due.0, due.1) result
over_due operator c due (Ok copy) (Ok made) (Ok over) same (is, below) from =
    ((λ i. (operator (sym same i) (is i).0, (is i).1)) ∙ sym from, within_as over (operator copy made.0, made.1) from below)
over_due operator c due (Err e) made (Ok over) same gives from = absurd from
over_due operator c due (Ok copy) (Err why) (Ok over) same gives from = absurd from
over_due operator c due copied made (Err why) same gives from = refused due (operator c due.0, due.1) made why (at_most due.1) gives from
