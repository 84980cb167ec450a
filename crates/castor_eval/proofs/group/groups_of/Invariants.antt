use Rattle.std.proofs.Common.{◌≡◌, length, take, vec_len}
use Rattle.castor_eval.specs.Grouping.{IsGrouped, keys_in, members_in}
use Rattle.castor_eval.proofs.group.groups_of.Given as goal

abbrev pub invariant-loop-row : goal.invariant-loop-row
invariant-loop-row l = record {
  grouped : IsGrouped l.ks (keys_in l.groups) (members_in l.groups) (take l.row-index l.rows);
  beside : vec_len l.groups.members ≡ length l.groups.keys.keys;
}
