use Rattle.std.proofs.Common.{◌≡◌, ◌-◌}
use Rattle.castor_parse.specs.Parser.{read_col, separated, separated_from}
use Rattle.castor_parse.proofs.parser.Parser.cols.Given as goal

abbrev pub invariant-loop-turn : goal.invariant-loop-turn
invariant-loop-turn l = separated (read_col) l.fn.self ≡ separated_from (read_col) (l._turn-end - l._turn) l.found l.self
