use Rattle.std.proofs.Common.{◌∙◌, sym, ap}
use Rattle.std.specs.Result.{result_ok}
use Rattle.castor_val.specs.Columns.{types_of}
use Rattle.castor_load.specs.Rows.{row_of}
use Rattle.castor_load.proofs.LineValues.{plain_values}
use Rattle.castor_load.proofs.cells.read_cells.Goals as goal

pub returns : goal.returns
returns c =
    let values = plain_values c.args.params.now c.args.line.now c.requires ∙ ap (λ fields. result_ok (row_of 0 (types_of c.args.params.now) fields)) (sym c.of_line.ensures) in
    rw values c.take_cells.ensures
