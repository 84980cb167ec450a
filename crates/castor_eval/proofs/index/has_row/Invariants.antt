use Rattle.std.proofs.Common.{◌≡◌, take, false}
use Rattle.std.specs.List.{list_any}
use Rattle.castor_val.specs.Values.{same_row}
use Rattle.castor_eval.proofs.index.has_row.Given as goal

abbrev pub invariant-loop-row : goal.invariant-loop-row
invariant-loop-row l = list_any (same_row l.key) (take l.row-index l.rows) ≡ false
