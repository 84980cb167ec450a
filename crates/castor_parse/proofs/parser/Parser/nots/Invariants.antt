use Rattle.castor_parse.proofs.Nots.{Counts}
use Rattle.castor_parse.proofs.parser.Parser.nots.Given as goal

abbrev pub invariant-loop-nots : goal.invariant-loop-nots
invariant-loop-nots l = Counts l.fn.self l.self l.nots
