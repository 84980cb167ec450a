use Rattle.std.proofs.Common.{◌≡◌, length, map, take}
use Rattle.castor_val.specs.Values.{same_row}
use Rattle.castor_alg.specs.Distinct.{distinct}
use Rattle.castor_eval.specs.Marks.{marked}
use Rattle.castor_reader.specs.Answers.{values_in}
use Rattle.castor_reader.proofs.distinct.first_marks.Given as goal

abbrev pub invariant-loop-row : goal.invariant-loop-row
invariant-loop-row l = record {
  seen : map values_in l.seen.keys ≡ distinct same_row (take l.row-index (map values_in l.rows));
  marks : marked l.marks.items (take l.row-index (map values_in l.rows)) ≡ distinct same_row (take l.row-index (map values_in l.rows));
  len : length l.marks.items ≡ l.row-index;
}
