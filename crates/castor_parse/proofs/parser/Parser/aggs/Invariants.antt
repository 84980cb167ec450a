use Rattle.std.proofs.Common.{◌≡◌, ◌-◌}
use Rattle.castor_parse.specs.Parser.{read_agg, separated, separated_from}
use Rattle.castor_parse.proofs.parser.Parser.aggs.Given as goal

abbrev pub invariant-loop-turn : goal.invariant-loop-turn
invariant-loop-turn l = separated (read_agg) l.fn.self ≡ separated_from (read_agg) (l._turn-end - l._turn) l.found l.self
