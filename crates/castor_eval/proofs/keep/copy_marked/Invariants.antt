use Rattle.std.proofs.Common.{◌≡◌, take}
use Rattle.castor_eval.specs.Marks.{marked}
use Rattle.castor_eval.proofs.keep.copy_marked.Given as goal

abbrev pub invariant-loop-at : goal.invariant-loop-at
invariant-loop-at l = l.kept ≡ marked l.marks (take l.at l.rows)
