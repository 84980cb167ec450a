use Rattle.std.proofs.Common.{◌≡◌, ◌++◌, drop}
use Rattle.std.specs.Vec.Iter.{into_iter_items}
use Rattle.castor_eval.specs.Marks.{marked}
use Rattle.castor_reader.proofs.keep.keep_marked.Given as goal

abbrev pub invariant-loop-mark : goal.invariant-loop-mark
invariant-loop-mark l = l.kept.items ++ marked (drop l.mark-index l.marks) (into_iter_items l.rest) ≡ marked l.marks l.fn.rows.items
