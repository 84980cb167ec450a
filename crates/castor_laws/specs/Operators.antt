-- What the operators make of outcomes that are the same up to the order of rows.
use Rattle.std.specs.Prelude.{ℕ, List, All, Bool, Result}
use Rattle.std.specs.List.{AllZip}
use Rattle.castor_val.specs.declared.fault.Faults.{Faults}
use Rattle.castor_val.specs.declared.row.Row.{Row}
use Rattle.castor_val.specs.declared.value.Value.{Value}
use Rattle.castor_alg.specs.declared.out.Out.{Out}
use Rattle.castor_alg.specs.declared.rel.Agg.{Agg}
use Rattle.castor_alg.specs.declared.rel.Key.{Key}
use Rattle.castor_alg.specs.Distinct.{deduped}
use Rattle.castor_alg.specs.Expression.{Answer}
use Rattle.castor_alg.specs.Groups.{grouped}
use Rattle.castor_alg.specs.Indexes.{hashed, ranged}
use Rattle.castor_alg.specs.Rows.{concatenated, crossed, depjoined, filtered, selected}
use Rattle.castor_alg.specs.Sorting.{sorted_by}
use Rattle.castor_alg.specs.Permutation.{SameUpToOrder}

-- the bodies of a binder are the same up to order under each row of its source
abbrev pub SameUnder : (Row → Out) → (Row → Out) → Out → Type 0
SameUnder body other source = All (λ row. SameUpToOrder (body row) (other row)) source.rows

-- where operands are the same up to order, so is what each operator makes of them
pub record OperatorsKeep : Type 0 where
  pub cross : (xs ys : List Out) → AllZip SameUpToOrder xs ys → SameUpToOrder (crossed xs) (crossed ys)
  pub concat : (xs ys : List Out) → AllZip SameUpToOrder xs ys → SameUpToOrder (concatenated xs) (concatenated ys)
  pub select : (f : Row → Result Row Faults) (a b : Out) → SameUpToOrder a b → SameUpToOrder (selected f a) (selected f b)
  pub filter : (f : Row → Answer) (a b : Out) → SameUpToOrder a b → SameUpToOrder (filtered f a) (filtered f b)
  pub group : (ks : List ℕ) (aggs : List Agg) (a b : Out) → SameUpToOrder a b → SameUpToOrder (grouped ks aggs a) (grouped ks aggs b)
  pub order : (ks : List Key) (a b : Out) → SameUpToOrder a b → SameUpToOrder (sorted_by ks a) (sorted_by ks b)
  pub dedup : (a b : Out) → SameUpToOrder a b → SameUpToOrder (deduped a) (deduped b)
  pub depjoin : (body other : Row → Out) (a b : Out) → SameUpToOrder a b → SameUnder body other a → SameUpToOrder (depjoined body a) (depjoined other b)
  pub hash : (body other : Row → Out) (a b : Out) (key : Result Row Faults) → SameUpToOrder a b → SameUnder body other a → SameUpToOrder (hashed body a key) (hashed other b key)
  pub ordered : (body other : Row → Out) (a b : Out) (from to : Result (Value → Bool) Faults) → SameUpToOrder a b → SameUnder body other a → SameUpToOrder (ranged body a from to) (ranged other b from to)
