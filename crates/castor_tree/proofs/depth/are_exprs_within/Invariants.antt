use Rattle.std.proofs.Common.{◌≤◌, take}
use Rattle.std.specs.Prelude.{map}
use Rattle.castor_tree.specs.Sizes.{deepest, expr_depth}
use Rattle.castor_tree.proofs.depth.are_exprs_within.Given as goal

abbrev pub invariant-loop-expr : goal.invariant-loop-expr
invariant-loop-expr l = deepest (map expr_depth (take l.expr-index l.exprs)) ≤ l.limit
