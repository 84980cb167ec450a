use Rattle.std.proofs.Common.{◌+◌, ◌*◌}
use Rattle.castor_code.proofs.decoding.Input.+expr.Given as goal

abbrev pub decreases-expr : goal.decreases-expr
decreases-expr l = 3 * l.levels

abbrev pub decreases-boxed_expr : goal.decreases-boxed_expr
decreases-boxed_expr l = 3 * l.levels + 1

abbrev pub decreases-expr_behind : goal.decreases-expr_behind
decreases-expr_behind l = 3 * l.levels + 2
