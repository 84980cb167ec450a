use Rattle.std.proofs.Common.{◌≡◌, map, take}
use Rattle.std.specs.List.{flat_map}
use Rattle.castor_val.specs.Values.{union}
use Rattle.castor_alg.specs.Rows.{faults_in, row_in, union_over}
use Rattle.castor_eval.specs.Grouping.{answers}
use Rattle.castor_reader.specs.Answers.{out_of, values_in}
use Rattle.castor_reader.specs.Grouping.{rows_behind}
use Rattle.castor_reader.proofs.group.aggregate_groups.Given as goal

abbrev pub invariant-loop-at : goal.invariant-loop-at
invariant-loop-at l = record {
  rows : (out_of l.all).rows ≡ flat_map row_in (take l.at (answers l.aggs (map values_in l.keys) (map rows_behind l.members)));
  faults : l.all.faults ≡ union l.initial.all.faults (union_over faults_in (take l.at (answers l.aggs (map values_in l.keys) (map rows_behind l.members))));
}
