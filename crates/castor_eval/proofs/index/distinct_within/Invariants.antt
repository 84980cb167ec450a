use Rattle.std.proofs.Common.{◌≡◌, ◌&&◌, filter, map, take}
use Rattle.castor_val.specs.Values.{column}
use Rattle.castor_eval.specs.Marks.{marked}
use Rattle.castor_eval.specs.Ranges.{above, below}
use Rattle.castor_eval.proofs.index.distinct_within.Given as goal

abbrev pub invariant-loop-at : goal.invariant-loop-at
invariant-loop-at l = map (λ row. row.now) l.found.items ≡ filter (λ a. above l.from (column a 0) && below l.to (column a 0)) (marked l.marks.items (take l.at l.rows))
