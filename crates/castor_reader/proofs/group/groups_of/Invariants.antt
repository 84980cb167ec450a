use Rattle.std.proofs.Common.{◌≡◌, length, map, take, vec_len}
use Rattle.castor_eval.specs.Grouping.{IsGrouped}
use Rattle.castor_reader.specs.Answers.{values_in}
use Rattle.castor_reader.specs.Grouping.{keys_in, members_in}
use Rattle.castor_reader.proofs.group.groups_of.Given as goal

abbrev pub invariant-loop-row : goal.invariant-loop-row
invariant-loop-row l = record {
  grouped : IsGrouped l.ks (keys_in l.groups) (members_in l.groups) (take l.row-index (map values_in l.rows));
  beside : vec_len l.groups.members ≡ length l.groups.keys.keys;
}
