use Rattle.std.proofs.Common.{◌≡◌, map, take}
use Rattle.std.specs.List.{flat_map}
use Rattle.castor_val.specs.Values.{union}
use Rattle.castor_alg.specs.Rows.{faults_in, row_in, union_over}
use Rattle.castor_eval.specs.Grouping.{answers, rows_behind}
use Rattle.castor_eval.specs.Keys.{key_values}
use Rattle.castor_eval.proofs.group.aggregate_groups.Given as goal

abbrev pub invariant-loop-at : goal.invariant-loop-at
invariant-loop-at l = record {
  rows : l.out.rows ≡ flat_map row_in (take l.at (answers l.aggs (map key_values l.keys) (map rows_behind l.members)));
  faults : l.out.faults ≡ union l.initial.out.faults (union_over faults_in (take l.at (answers l.aggs (map key_values l.keys) (map rows_behind l.members))));
}
