-- Dependent joins: loops over rows, one in another.
use Rattle.std.specs.Prelude.{◌≡◌}
use Rattle.castor_val.specs.declared.row.Row.{Row}
use Rattle.castor_val.specs.Values.{no_faults}
use Rattle.castor_alg.specs.declared.out.Out.{Out}
use Rattle.castor_alg.specs.Expression.{Answer}
use Rattle.castor_alg.specs.Rows.{depjoined, filtered}
use Rattle.castor_laws.specs.Faultless.{HasValue}

-- a dependent join over a dependent join is one of which the body is a dependent join
abbrev pub DependentJoinsRegroup : Type 0
DependentJoinsRegroup = (inner outer : Row → Out) (r : Out) → depjoined outer (depjoined inner r) ≡ depjoined (λ row. depjoined outer (inner row)) r

-- a filter of each body by a test of the source's row may go to the source, where neither the test nor a body faults
abbrev pub FilterGoesToSource : Type 0
FilterGoesToSource = (test : Row → Answer) (body : Row → Out) (r : Out) → ((row : Row) → HasValue (test row)) → ((row : Row) → (body row).faults ≡ no_faults) → depjoined (λ row. filtered (λ other. test row) (body row)) r ≡ depjoined body (filtered test r)
