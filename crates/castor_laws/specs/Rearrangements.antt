-- Operators that change places.
use Rattle.std.specs.Prelude.{◌≡◌, List, [], ◌∷◌, map, Bool, Result, Ok}
use Rattle.castor_val.specs.declared.fault.Faults.{Faults}
use Rattle.castor_val.specs.declared.row.Row.{Row}
use Rattle.castor_val.specs.declared.value.Value.{Value}
use Rattle.castor_alg.specs.declared.out.Out.{Out}
use Rattle.castor_alg.specs.declared.rel.Key.{Key}
use Rattle.castor_alg.specs.Distinct.{deduped}
use Rattle.castor_alg.specs.declared.expr.Op.TheVariants.{And}
use Rattle.castor_alg.specs.Expression.{Answer, apply, both_sides, negation}
use Rattle.castor_alg.specs.Indexes.{hashed, ranged}
use Rattle.castor_alg.specs.Rows.{concatenated, depjoined, filtered, selected}
use Rattle.castor_alg.specs.Sorting.{sorted_by}
use Rattle.castor_laws.specs.Faultless.{HasValue}
use Rattle.castor_laws.specs.Deciding.{DecidesOn}
use Rattle.castor_alg.specs.Permutation.{SameUpToOrder}

-- two filters change places, where neither condition faults
abbrev pub FiltersExchange : Type 0
FiltersExchange = (f g : Row → Answer) (r : Out) → ((row : Row) → HasValue (f row)) → ((row : Row) → HasValue (g row)) → filtered f (filtered g r) ≡ filtered g (filtered f r)

-- the sides of a conjunction change places
abbrev pub ConjunctionCommutes : Type 0
ConjunctionCommutes = (a b : Answer) → both_sides (apply And) a b ≡ both_sides (apply And) b a

-- the rows on which a test is true and those on which its negation is are all rows, up to order, where on each of them the test is true or false
abbrev pub SplitsByTest : Type 0
SplitsByTest = (test : Row → Answer) (holds : Row → Bool) (r : Out) → DecidesOn r.rows test holds → SameUpToOrder r (concatenated (filtered test r ∷ filtered (λ row. negation (test row)) r ∷ []))

-- what comes after a projection that never faults may come before it, over the projected row
pub record AfterProjection (g : Row → Row) (r : Out) : Type 0 where
  pub filter : (f : Row → Answer) → filtered f (selected (λ row. Ok (g row)) r) ≡ selected (λ row. Ok (g row)) (filtered (λ row. f (g row)) r)
  pub select : (f : Row → Result Row Faults) → selected f (selected (λ row. Ok (g row)) r) ≡ selected (λ row. f (g row)) r
  pub depjoin : (body : Row → Out) → depjoined body (selected (λ row. Ok (g row)) r) ≡ depjoined (λ row. body (g row)) r

-- an operator moves into the operands of a concatenation, and into the body of each binder
pub record MovesInto (operator : Out → Out) : Type 0 where
  pub concat : (rs : List Out) → operator (concatenated rs) ≡ concatenated (map operator rs)
  pub depjoin : (body : Row → Out) (r : Out) → operator (depjoined body r) ≡ depjoined (λ row. operator (body row)) r
  pub hash : (body : Row → Out) (r : Out) (key : Result Row Faults) → operator (hashed body r key) ≡ hashed (λ row. operator (body row)) r key
  pub ordered : (body : Row → Out) (r : Out) (from to : Result (Value → Bool) Faults) → operator (ranged body r from to) ≡ ranged (λ row. operator (body row)) r from to

-- the distinct rows of distinct rows are these
abbrev pub DistinctTwice : Type 0
DistinctTwice = (r : Out) → deduped (deduped r) ≡ deduped r

-- sorting and filtering change places, up to order
abbrev pub SortsUnderFilter : Type 0
SortsUnderFilter = (keys : List Key) (f : Row → Answer) (r : Out) → SameUpToOrder (sorted_by keys (filtered f r)) (filtered f (sorted_by keys r))
