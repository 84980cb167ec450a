use Rattle.std.proofs.Common.{◌≡◌, ◌-◌}
use Rattle.castor_parse.specs.Parser.{negated}
use Rattle.castor_parse.proofs.parser.Parser.negated.Given as goal

abbrev pub invariant-loop-turn : goal.invariant-loop-turn
invariant-loop-turn l = negated l.fn.nots l.fn.tree l.fn.self ≡ negated (l.fn.nots - l._turn) l.tree l.self
