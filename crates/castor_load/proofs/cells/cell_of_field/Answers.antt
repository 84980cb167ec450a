use Rattle.std.proofs.Common.{sym, ap}
use Rattle.std.specs.Result.{result_ok}
use Rattle.castor_val.proofs.FieldLaws.{field_value-no_text}
use Rattle.castor_load.proofs.cells.cell_of_field.Goals as goal

pub returns-in-Err : goal.returns-in-Err
returns-in-Err c = sym (ap result_ok (field_value-no_text c.args.ty c.args.field.now c.in-Err.ensures.cases.0))
