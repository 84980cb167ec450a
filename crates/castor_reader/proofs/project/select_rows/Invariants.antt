use Rattle.std.proofs.Common.{◌≡◌, map, take}
use Rattle.std.specs.List.{flat_map}
use Rattle.castor_val.specs.declared.row.Row.{Row}
use Rattle.castor_val.specs.Values.{union, value_of}
use Rattle.castor_alg.specs.Expression.{expr_values}
use Rattle.castor_alg.specs.Rows.{faults_in, row_in, union_over}
use Rattle.castor_alg.specs.Scopes.{scopes_of}
use Rattle.castor_reader.specs.Answers.{out_of, values_in}
use Rattle.castor_reader.proofs.project.select_rows.Given as goal

abbrev pub invariant-loop-row : goal.invariant-loop-row
invariant-loop-row l = record {
  rows : (out_of l.answer).rows ≡ flat_map (λ (row : Row). row_in (expr_values l.es row (scopes_of l.env) (map value_of l.params))) (take l.row-index (map values_in l.rows));
  faults : l.answer.faults ≡ union l.initial.answer.faults (union_over (λ (row : Row). faults_in (expr_values l.es row (scopes_of l.env) (map value_of l.params))) (take l.row-index (map values_in l.rows)));
}
