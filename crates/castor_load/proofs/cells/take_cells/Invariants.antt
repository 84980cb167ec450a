use Rattle.std.proofs.Common.{◌≡◌, map, drop}
use Rattle.std.specs.Result.{result_ok}
use Rattle.castor_val.specs.Columns.{types_of}
use Rattle.castor_val.specs.Values.{value_of}
use Rattle.castor_load.specs.Plain.{fields_left}
use Rattle.castor_load.specs.Rows.{row_of}
use Rattle.castor_load.proofs.LineValues.{row_after}
use Rattle.castor_load.proofs.cells.take_cells.Given as goal

abbrev pub invariant-loop-param : goal.invariant-loop-param
invariant-loop-param l = result_ok (row_of 0 (types_of l.params) (fields_left l.fn.fields)) ≡ row_after (map value_of l.into.items) (types_of (drop l.param-index l.params)) (fields_left l.fields)
