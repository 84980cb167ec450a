use Rattle.std.proofs.Common.{◌≡◌, ◌+◌, ◌-◌, ◌*◌}
use Rattle.castor_parse.specs.Parser.{expr_at, read_or, read_and, read_not, read_sum, read_term, read_prim, chain_from, or_operator, and_operator, sum_operator, term_operator}
use Rattle.castor_parse.proofs.parser.Parser.+expr.Given as goal

abbrev pub decreases-expr : goal.decreases-expr
decreases-expr l = 10 * l.depth

abbrev pub decreases-if_expr : goal.decreases-if_expr
decreases-if_expr l = 10 * l.depth + 2

abbrev pub decreases-boxed_expr : goal.decreases-boxed_expr
decreases-boxed_expr l = 10 * l.depth + 1

abbrev pub decreases-parenthesized : goal.decreases-parenthesized
decreases-parenthesized l = 10 * l.depth + 1

abbrev pub decreases-prim : goal.decreases-prim
decreases-prim l = 10 * l.depth + 3

abbrev pub decreases-term : goal.decreases-term
decreases-term l = 10 * l.depth + 4

abbrev pub decreases-sum : goal.decreases-sum
decreases-sum l = 10 * l.depth + 5

abbrev pub decreases-cmp : goal.decreases-cmp
decreases-cmp l = 10 * l.depth + 6

abbrev pub decreases-not_expr : goal.decreases-not_expr
decreases-not_expr l = 10 * l.depth + 7

abbrev pub decreases-and_expr : goal.decreases-and_expr
decreases-and_expr l = 10 * l.depth + 8

abbrev pub decreases-or_expr : goal.decreases-or_expr
decreases-or_expr l = 10 * l.depth + 9

abbrev pub invariant-or_expr-loop-turn : goal.invariant-or_expr-loop-turn
invariant-or_expr-loop-turn l = read_or (expr_at l.depth) l.fn.self ≡ chain_from or_operator (read_and (expr_at l.depth)) (l._turn-end - l._turn) l.left l.self

abbrev pub invariant-and_expr-loop-turn : goal.invariant-and_expr-loop-turn
invariant-and_expr-loop-turn l = read_and (expr_at l.depth) l.fn.self ≡ chain_from and_operator (read_not (expr_at l.depth)) (l._turn-end - l._turn) l.left l.self

abbrev pub invariant-sum-loop-turn : goal.invariant-sum-loop-turn
invariant-sum-loop-turn l = read_sum (expr_at l.depth) l.fn.self ≡ chain_from sum_operator (read_term (expr_at l.depth)) (l._turn-end - l._turn) l.left l.self

abbrev pub invariant-term-loop-turn : goal.invariant-term-loop-turn
invariant-term-loop-turn l = read_term (expr_at l.depth) l.fn.self ≡ chain_from term_operator (read_prim (expr_at l.depth)) (l._turn-end - l._turn) l.left l.self
