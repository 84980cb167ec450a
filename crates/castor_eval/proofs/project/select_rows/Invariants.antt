use Rattle.std.proofs.Common.{◌≡◌, map, take}
use Rattle.std.specs.List.{flat_map}
use Rattle.castor_val.specs.declared.row.Row.{Row}
use Rattle.castor_val.specs.Values.{value_of, union}
use Rattle.castor_alg.specs.Expression.{expr_values}
use Rattle.castor_alg.specs.Rows.{faults_in, row_in, union_over}
use Rattle.castor_alg.specs.Scopes.{scopes_of}
use Rattle.castor_eval.proofs.project.select_rows.Given as goal

abbrev pub invariant-loop-row : goal.invariant-loop-row
invariant-loop-row l = record {
  rows : l.out.rows ≡ flat_map (λ (row : Row). row_in (expr_values l.es row (scopes_of l.env) (map value_of l.params))) (take l.row-index l.rows);
  faults : l.out.faults ≡ union l.initial.out.faults (union_over (λ (row : Row). faults_in (expr_values l.es row (scopes_of l.env) (map value_of l.params))) (take l.row-index l.rows));
}
