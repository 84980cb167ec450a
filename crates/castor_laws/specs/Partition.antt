-- Filters, groups and the distinct rows of a list that is parted by keys.
use Rattle.std.specs.Prelude.{◌≡◌, ℕ, List, ◌∷◌, [], ◌++◌, All, Bool, ◌&&◌, Ok}
use Rattle.castor_val.specs.declared.row.Row.{Row}
use Rattle.castor_val.specs.declared.value.Value.{Value}
use Rattle.castor_val.specs.declared.value.Value.TheVariants.{Bool as Truth}
use Rattle.castor_val.specs.Values.{same_row, same_value}
use Rattle.castor_alg.specs.declared.expr.Op.TheVariants.{And}
use Rattle.castor_alg.specs.declared.out.Out.{Out}
use Rattle.castor_alg.specs.declared.rel.Agg.{Agg}
use Rattle.castor_alg.specs.Distinct.{deduped}
use Rattle.castor_alg.specs.Expression.{Answer, apply, both_sides}
use Rattle.castor_alg.specs.Groups.{grouped, key_of}
use Rattle.castor_alg.specs.Indexes.{hashed, ranged}
use Rattle.castor_alg.specs.Rows.{depjoined, filtered, selected}
use Rattle.castor_laws.specs.Deciding.{DecidesOn}
use Rattle.castor_laws.specs.Faultless.{HasValue}
use Rattle.castor_alg.specs.Permutation.{SameUpToOrder}

-- a filter by a conjunction is two filters, where the first condition never faults
abbrev pub FilterByBoth : Type 0
FilterByBoth = (f g : Row → Answer) (r : Out) → ((row : Row) → HasValue (f row)) → filtered (λ row. both_sides (apply And) (f row) (g row)) r ≡ filtered f (filtered g r)

-- a filter of the distinct rows gives the distinct ones of the filtered rows
abbrev pub FilterOfDistinct : Type 0
FilterOfDistinct = (test : Row → Answer) (r : Out) → filtered test (deduped r) ≡ deduped (filtered test r)

-- the rows that have a key are found in a hash index over the keys of all rows, whose body has them under that key
abbrev pub FilterIsLookUp : Type 0
FilterIsLookUp = (keys : Row → Row) (key : Row) (r : Out) (test : Row → Answer) (body : Row → Out)
    → DecidesOn r.rows test (λ row. same_row (keys row) key)
    → body key ≡ filtered test r
    → filtered test r ≡ hashed body (selected (λ row. Ok (keys row)) r) (Ok key)

-- groups by keys are, for each distinct key in turn, the key in front of the one group of the rows that have it
abbrev pub GroupsAreParts : Type 0
GroupsAreParts = (k : ℕ) (ks : List ℕ) (aggs : List Agg) (r : Out) (test : Row → Row → Answer)
    → All (λ of. DecidesOn r.rows (test (key_of (k ∷ ks) of)) (λ row. same_row (key_of (k ∷ ks) row) (key_of (k ∷ ks) of))) r.rows
    → grouped (k ∷ ks) aggs r ≡ depjoined (λ key. selected (λ row. Ok (key ++ row)) (grouped [] aggs (filtered (test key) r))) (deduped (selected (λ row. Ok (key_of (k ∷ ks) row)) r))

-- the rows whose value is within two bounds are found, up to order, in an ordered index over the values of all rows, whose body has under each value the rows with it
abbrev pub FilterIsRange : Type 0
FilterIsRange = (at : Row → Value) (r : Out) (test : Row → Answer) (from to : Value → Bool) (body : Row → Out)
    → DecidesOn r.rows test (λ row. from (at row) && to (at row))
    → All (λ of. body (at of ∷ []) ≡ filtered (λ row. Ok (Truth (same_value (at row) (at of)))) r) r.rows
    → SameUpToOrder (filtered test r) (ranged body (selected (λ row. Ok (at row ∷ [])) r) (Ok from) (Ok to))
