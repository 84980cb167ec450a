use Rattle.std.proofs.lemmas.Bool.{false≢true}
use Rattle.castor_tree.specs.Sizes.{item_depth}
use Rattle.castor_tree.proofs.Depths.{too_deep}
use Rattle.castor_tree.proofs.depth.are_items_within.Goals as goal

pub returns-then-not-is_expr_within : goal.returns-then-not-is_expr_within
returns-then-not-is_expr_within c = (λ t. absurd (false≢true t), too_deep item_depth c.args.items.now c.loop-item.item-index c.item-item.result c.args.limit c.loop-item-test.true c.item-item.is c.if-not-is_expr_within.ensures.1)
