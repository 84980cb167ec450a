use Rattle.std.proofs.Common.{arith}
use Rattle.castor_parse.proofs.parser.Parser.col_number.Goals as goal

pub overflow_cast-result : goal.overflow_cast-result
overflow_cast-result c = omega (arith, c.in_ok-number.ensures.within)
