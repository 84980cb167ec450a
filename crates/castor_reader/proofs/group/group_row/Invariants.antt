use Rattle.std.proofs.Common.{◌≡◌, map, take}
use Rattle.castor_val.specs.Values.{value_of}
use Rattle.castor_alg.specs.Groups.{aggregates, behind_key}
use Rattle.castor_reader.specs.Answers.{row_behind, row_of}
use Rattle.castor_reader.proofs.group.group_row.Given as goal

abbrev pub invariant-loop-agg : goal.invariant-loop-agg
invariant-loop-agg l = row_of l.answer ≡ behind_key (map value_of l.key) (aggregates (take l.agg-index l.aggs) (map row_behind l.members))
