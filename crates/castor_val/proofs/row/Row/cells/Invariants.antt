use Rattle.std.proofs.Common.{◌≡◌, map, take}
use Rattle.castor_val.specs.Values.{value_of}
use Rattle.castor_val.proofs.row.Row.cells.Given as goal

abbrev pub invariant-loop-value : goal.invariant-loop-value
invariant-loop-value l = map value_of l.cells.items ≡ take l.value-index l.value-items
