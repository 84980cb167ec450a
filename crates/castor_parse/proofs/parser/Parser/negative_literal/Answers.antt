use Rattle.std.proofs.Common.{arith}
use Rattle.castor_parse.proofs.parser.Parser.negative_literal.Goals as goal

pub negative-requires : goal.negative-requires
negative-requires c = omega (arith, c.in_ok-number.ensures.within)
