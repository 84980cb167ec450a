use Rattle.std.proofs.Common.{◌≡◌, ◌-◌}
use Rattle.castor_parse.specs.Parser.{read_decls, decls_from}
use Rattle.castor_parse.proofs.parser.Parser.decls.Given as goal

abbrev pub invariant-loop-turn : goal.invariant-loop-turn
invariant-loop-turn l = read_decls l.fn.self ≡ decls_from (l._turn-end - l._turn) l.found l.self
