-- A filter over groups.
use Rattle.std.specs.Prelude.{◌≡◌, ℕ, List, ◌∷◌, ◌++◌, true, not}
use Rattle.std.specs.List.{list_all}
use Rattle.castor_val.specs.declared.row.Row.{Row}
use Rattle.castor_alg.specs.declared.out.Out.{Out}
use Rattle.castor_alg.specs.declared.rel.Agg.{Agg}
use Rattle.castor_alg.specs.Expression.{Answer}
use Rattle.castor_alg.specs.Groups.{grouped, key_of}
use Rattle.castor_alg.specs.Rows.{filtered}
use Rattle.castor_alg.specs.Totality.{is_sum}
use Rattle.castor_laws.specs.Faultless.{HasValue}

-- a filter that says of each group, none of whose aggregates is a sum, what a test that never faults says of the rows with its key may come before the grouping
abbrev pub FilterUnderGroups : Type 0
FilterUnderGroups = (k : ℕ) (ks : List ℕ) (aggs : List Agg) (r : Out) (over under : Row → Answer)
    → list_all (λ a. not (is_sum a)) aggs ≡ true
    → ((row : Row) → HasValue (under row))
    → ((of values : Row) → over (key_of (k ∷ ks) of ++ values) ≡ under of)
    → filtered over (grouped (k ∷ ks) aggs r) ≡ grouped (k ∷ ks) aggs (filtered under r)
