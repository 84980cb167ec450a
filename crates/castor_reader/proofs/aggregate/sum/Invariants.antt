use Rattle.std.proofs.Common.{◌≡◌, pos, neg_ℤ, ◌≤ℤ◌, ◌^◌, ◌*◌, map, take}
use Rattle.castor_alg.specs.Groups as groups
use Rattle.castor_reader.specs.Answers.{row_behind}
use Rattle.castor_reader.proofs.aggregate.sum.Given as goal

abbrev pub invariant-loop-row : goal.invariant-loop-row
invariant-loop-row l = record {
  total : l.total ≡ groups.total l.at (map row_behind (take l.row-index l.rows));
  least : neg_ℤ (pos (l.row-index * 2 ^ 63)) ≤ℤ l.total;
  most : l.total ≤ℤ pos (l.row-index * 2 ^ 63);
}
