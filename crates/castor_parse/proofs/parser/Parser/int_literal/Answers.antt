use Rattle.std.proofs.Common.{arith}
use Rattle.castor_parse.proofs.parser.Parser.int_literal.Goals as goal

pub positive-requires : goal.positive-requires
positive-requires c = omega (arith, c.in_ok-number.ensures.within)
