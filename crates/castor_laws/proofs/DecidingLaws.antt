-- Filters by conditions that never fault.
use Rattle.std.proofs.Common.{◌≡◌, ◌∙◌, List, ◌∷◌, filter, refl, ap, cond, Bool, Ok}
use Rattle.castor_val.specs.declared.row.Row.{Row}
use Rattle.castor_val.specs.declared.value.Value.TheVariants.{Bool as Truth}
use Rattle.castor_val.specs.Values.{union}
use Rattle.castor_val.proofs.FaultLaws.{union-no_faults}
use Rattle.castor_alg.specs.declared.out.Out.{Out}
use Rattle.castor_alg.specs.Expression.{Answer}
use Rattle.castor_alg.specs.Rows.{faults_in, filtered, is_true, union_over}
use Rattle.castor_laws.specs.Deciding.{DecidesOn}
use Rattle.castor_laws.specs.Faultless.{HasValue}
use Rattle.castor_laws.proofs.EachLaws.{Each, none, one, each_from_All, each_weaker}
use Rattle.castor_laws.proofs.OutcomeLaws.{no_more_faults, outcome_by}
use Rattle.castor_laws.proofs.TotalRelLaws.{no_union_over}

-- a test that has a value on each row adds no faults
pub filtered_values : (test : Row → Answer) → ((row : Row) → HasValue (test row)) → (r : Out) → filtered test r ≡ record { rows = filter (λ row. is_true (test row)) r.rows; faults = r.faults }
filtered_values test values r =
    outcome_by (filtered test r) (record { rows = filter (λ row. is_true (test row)) r.rows; faults = r.faults }) refl
    ((λ i. union r.faults (union_over (λ row. faults_in ((values row).1 i)) r.rows)) ∙ no_more_faults r.faults r.rows)

those_that_hold : (test : Row → Answer) (holds : Row → Bool) {rows : List Row} → Each (λ row. test row ≡ Ok (Truth (holds row))) rows → filter (λ row. is_true (test row)) rows ≡ filter holds rows
those_that_hold test holds none = refl
those_that_hold test holds (one {x} {xs} first rest) = λ i. cond (is_true (first i)) (x ∷ those_that_hold test holds rest i) (those_that_hold test holds rest i)

-- a filter by a test that decides on the rows at hand
pub filtered_where : (test : Row → Answer) (holds : Row → Bool) (r : Out) → DecidesOn r.rows test holds → filtered test r ≡ record { rows = filter holds r.rows; faults = r.faults }
filtered_where test holds r decides =
    let each = each_from_All (λ row. test row ≡ Ok (Truth (holds row))) r.rows decides in
    outcome_by (filtered test r) (record { rows = filter holds r.rows; faults = r.faults }) (those_that_hold test holds each)
    (ap (union r.faults) (no_union_over (λ row. faults_in (test row)) (each_weaker _ _ (λ row is. ap faults_in is) each)) ∙ union-no_faults r.faults)
