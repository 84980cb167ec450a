-- What parsers give, step by step.
use Rattle.std.proofs.Common.{◌≡◌, Some, None, refl, subst}
use Rattle.castor_parse.specs.Parser.{State, Outcome, Parser, and_then}

-- what was read, and where the parser is then
abbrev pub pair : {A : Type 0} → A → State → A × State
pair x st = (x, st)

pub same_pair : {A : Type 0} (p q : A × State) → Some p ≡ Some q → p ≡ q
same_pair p q e = cc

pub none_some : {A : Type 0} (p : A × State) → None ≡ Some p → ⊥
none_some p e = cc

-- what holds of all that an outcome gives
pub record Gives {A : Type 0} (o : Outcome A) (P : A → State → Type 0) : Type 0 where
  pub holds : (x : A) (st : State) → o ≡ Some (x, st) → P x st

pub gives_none : {A : Type 0} (P : A → State → Type 0) → Gives None P
gives_none P = record { holds = λ x st e. absurd (none_some (x, st) e) }

pub gives_some : {A : Type 0} (P : A → State → Type 0) (x : A) (st : State) → P x st → Gives (Some (x, st)) P
gives_some P x st h = record { holds = λ y new e. subst (λ p. P p.0 p.1) (same_pair (x, st) (y, new) e) h }

-- what holds of all that an outcome gives holds in a weaker form
pub weaker : {A : Type 0} {o : Outcome A} {P : A → State → Type 0} (Q : A → State → Type 0) → Gives o P → ((x : A) (st : State) → P x st → Q x st) → Gives o Q
weaker Q h k = record { holds = λ x st e. k x st (h.holds x st e) }

step_at : {A B : Type 0} (P : A → State → Type 0) (Q : B → State → Type 0) (o : Outcome A) (f : A → Parser B) → Gives o P → ((x : A) (st : State) → P x st → Gives (f x st) Q) → Gives (and_then o f) Q
step_at P Q None f h k = gives_none Q
step_at P Q (Some p) f h k = k p.0 p.1 (h.holds p.0 p.1 refl)

-- one step after another
pub step : {A B : Type 0} {o : Outcome A} {f : A → Parser B} {P : A → State → Type 0} {Q : B → State → Type 0} → Gives o P → ((x : A) (st : State) → P x st → Gives (f x st) Q) → Gives (and_then o f) Q
step h k = step_at _ _ _ _ h k

-- the steps of a parser that did read something
pub then : {A B : Type 0} (o : Outcome A) (f : A → Parser B) (x : A) (st : State) (r : Outcome B) → o ≡ Some (x, st) → f x st ≡ r → and_then o f ≡ r
then o f x st r is rest = rw is rest
