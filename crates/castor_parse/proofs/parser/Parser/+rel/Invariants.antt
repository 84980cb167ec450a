use Rattle.std.proofs.Common.{◌≡◌, ◌+◌, ◌-◌, ◌*◌}
use Rattle.castor_parse.specs.Parser.{rel_at, separated, separated_from}
use Rattle.castor_parse.proofs.parser.Parser.+rel.Given as goal

abbrev pub decreases-rel : goal.decreases-rel
decreases-rel l = 4 * l.depth

abbrev pub decreases-operand : goal.decreases-operand
decreases-operand l = 4 * l.depth + 1

abbrev pub decreases-rels : goal.decreases-rels
decreases-rels l = 4 * l.depth + 1

abbrev pub decreases-source : goal.decreases-source
decreases-source l = 4 * l.depth + 1

abbrev pub decreases-operands : goal.decreases-operands
decreases-operands l = 4 * l.depth + 2

abbrev pub decreases-unary : goal.decreases-unary
decreases-unary l = 4 * l.depth + 2

abbrev pub decreases-join : goal.decreases-join
decreases-join l = 4 * l.depth + 2

abbrev pub decreases-binder : goal.decreases-binder
decreases-binder l = 4 * l.depth + 2

abbrev pub decreases-hash : goal.decreases-hash
decreases-hash l = 4 * l.depth + 2

abbrev pub decreases-ordered : goal.decreases-ordered
decreases-ordered l = 4 * l.depth + 2

abbrev pub decreases-operator : goal.decreases-operator
decreases-operator l = 4 * l.depth + 3

abbrev pub invariant-rels-loop-turn : goal.invariant-rels-loop-turn
invariant-rels-loop-turn l = separated (rel_at l.depth) l.fn.self ≡ separated_from (rel_at l.depth) (l._turn-end - l._turn) l.found l.self
