use Rattle.std.proofs.Common.{◌≡◌, ◌-◌}
use Rattle.castor_parse.specs.Parser.{read_key, separated, separated_from}
use Rattle.castor_parse.proofs.parser.Parser.keys.Given as goal

abbrev pub invariant-loop-turn : goal.invariant-loop-turn
invariant-loop-turn l = separated (read_key) l.fn.self ≡ separated_from (read_key) (l._turn-end - l._turn) l.found l.self
