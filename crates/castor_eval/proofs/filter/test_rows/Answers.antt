use Rattle.std.proofs.Common.{map}
use Rattle.castor_val.specs.declared.row.Row.{Row}
use Rattle.castor_val.specs.Values.{value_of}
use Rattle.castor_alg.specs.Expression.{expr_value}
use Rattle.castor_alg.specs.Rows.{faults_in}
use Rattle.castor_alg.specs.Scopes.{scopes_of}
use Rattle.castor_eval.proofs.LoopLaws.{over_whole}
use Rattle.castor_eval.proofs.filter.test_rows.Goals as goal

pub returns-clause-faults : goal.returns-clause-faults
returns-clause-faults c = over_whole (λ (row : Row). faults_in (expr_value c.args.e.now row (scopes_of c.args.env.now) (map value_of c.args.params.now))) _ _ _ c.loop-row-test.false c.loop-row.invariant.faults
