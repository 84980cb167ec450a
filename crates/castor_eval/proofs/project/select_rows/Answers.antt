use Rattle.std.proofs.Common.{map, refl}
use Rattle.castor_val.specs.declared.row.Row.{Row}
use Rattle.castor_val.specs.Values.{value_of}
use Rattle.castor_alg.specs.Expression.{expr_values}
use Rattle.castor_alg.specs.Scopes.{scopes_of}
use Rattle.castor_eval.proofs.LoopLaws.{selected_whole}
use Rattle.castor_eval.proofs.project.select_rows.Goals as goal

pub returns : goal.returns
returns c =
    selected_whole (λ (row : Row). expr_values c.args.es.now row (scopes_of c.args.env.now) (map value_of c.args.params.now)) (record { rows = c.args.rows.now; faults = c.args.faults }) _ _ _ _
    c.loop-row-test.false c.loop-row.invariant.rows c.loop-row.invariant.faults refl
