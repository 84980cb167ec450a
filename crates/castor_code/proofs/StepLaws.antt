-- Readings one after the other.
use Rattle.std.proofs.Common.{◌≡◌, Bool, true, Option, Some, None, ap, refl}
use Rattle.std.proofs.lemmas.Option.{cond_some, none-some}
use Rattle.castor_code.specs.Steps.{next, when}

-- what was read, and what is left
abbrev pub got : {X S : Type 0} → X → S → Option (X × S)
got x s = Some (x, s)

pub next_of : {X S Y : Type 0} (o : Option (X × S)) (f : X → S → Option Y) (x : X) (s : S) → o ≡ Some (x, s) → next o f ≡ f x s
next_of o f x s is = ap (λ p. next p f) is

-- an answer that came of two readings
pub record Came {X S Y : Type 0} (o : Option (X × S)) (f : X → S → Option Y) (y : Y) : Type 0 where
  pub first : X
  pub left : S
  pub read : o ≡ Some (first, left)
  pub answer : f first left ≡ Some y

pub came : {X S Y : Type 0} (o : Option (X × S)) (f : X → S → Option Y) (y : Y) → next o f ≡ Some y → Came o f y
came (Some x) f y is = record { first = x.0; left = x.1; read = refl; answer = is }
came None f y is = absurd (none-some y is)

pub when_holds : {X : Type 0} (b : Bool) (x : X) → b ≡ true → when b x ≡ Some x
when_holds b x is = rw is refl

-- a test that let a reading through
pub record Let {X S : Type 0} (b : Bool) (x y : X) (s t : S) : Type 0 where
  pub holds : b ≡ true
  pub value : x ≡ y
  pub left : s ≡ t

pub let_through : {X S : Type 0} (b : Bool) (x y : X) (s t : S) → when {X = X × S} b (x, s) ≡ Some (y, t) → Let b x y s t
let_through {X} {S} b x y s t is =
    let found = cond_some b (x, s) (y, t) is in
    record { holds = found.0; value = ap (λ (p : X × S). p.0) found.1; left = ap (λ (p : X × S). p.1) found.1 }
