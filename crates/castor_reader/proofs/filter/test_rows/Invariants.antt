use Rattle.std.proofs.Common.{◌≡◌, map, take}
use Rattle.castor_val.specs.declared.row.Row.{Row}
use Rattle.castor_val.specs.Values.{value_of}
use Rattle.castor_alg.specs.Expression.{expr_value}
use Rattle.castor_alg.specs.Rows.{faults_in, is_true, union_over}
use Rattle.castor_alg.specs.Scopes.{scopes_of}
use Rattle.castor_reader.specs.Answers.{values_in}
use Rattle.castor_reader.proofs.filter.test_rows.Given as goal

abbrev pub invariant-loop-row : goal.invariant-loop-row
invariant-loop-row l = record {
  marks : l.marks.items ≡ map (λ (row : Row). is_true (expr_value l.e row (scopes_of l.env) (map value_of l.params))) (take l.row-index (map values_in l.rows));
  faults : l.faults ≡ union_over (λ (row : Row). faults_in (expr_value l.e row (scopes_of l.env) (map value_of l.params))) (take l.row-index (map values_in l.rows));
}
