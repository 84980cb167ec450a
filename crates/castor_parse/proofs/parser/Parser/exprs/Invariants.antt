use Rattle.std.proofs.Common.{◌≡◌, ◌-◌}
use Rattle.castor_parse.specs.Parser.{expr_at, separated, separated_from}
use Rattle.castor_parse.proofs.parser.Parser.exprs.Given as goal

abbrev pub invariant-loop-turn : goal.invariant-loop-turn
invariant-loop-turn l = separated (expr_at l.depth) l.fn.self ≡ separated_from (expr_at l.depth) (l._turn-end - l._turn) l.found l.self
