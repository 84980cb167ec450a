use Rattle.std.proofs.lemmas.Bool.{false≢true}
use Rattle.castor_tree.specs.Sizes.{expr_depth}
use Rattle.castor_tree.proofs.Depths.{too_deep}
use Rattle.castor_tree.proofs.depth.are_exprs_within.Goals as goal

pub returns-then-not-is_expr_within : goal.returns-then-not-is_expr_within
returns-then-not-is_expr_within c = (λ t. absurd (false≢true t), too_deep expr_depth c.args.exprs.now c.loop-expr.expr-index c.expr-item.result c.args.limit c.loop-expr-test.true c.expr-item.is c.if-not-is_expr_within.ensures.1)
