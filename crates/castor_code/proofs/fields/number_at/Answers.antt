use Rattle.std.proofs.Common.{arith}
use Rattle.castor_code.proofs.NumberLaws.{number_short}
use Rattle.castor_code.proofs.fields.number_at.Goals as goal

pub returns-then-bytes-width : goal.returns-then-bytes-width
returns-then-bytes-width c = number_short c.args.most c.args.bytes.now c.field_width-width.result c.field_width-width.ensures.value (omega arith)
