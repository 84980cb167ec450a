use Rattle.std.proofs.Common.{arith}
use Rattle.castor_parse.proofs.parser.Parser.member.Goals as goal

pub overflow_cast-number : goal.overflow_cast-number
overflow_cast-number c = omega (arith, c.in_ok-number-in-Some-Int.ensures.within)
