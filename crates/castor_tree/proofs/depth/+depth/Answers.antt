use Rattle.std.proofs.Common.{◌+◌, map, sym, ap, ◌∙◌, arith}
use Rattle.std.proofs.lemmas.Bool.{false≢true}
use Rattle.castor_tree.specs.Sizes.{depth, deepest}
use Rattle.castor_tree.proofs.Depths.{too_deep, one_deeper, depth-Cross, depth-Concat}
use Rattle.castor_tree.proofs.depth.+depth.Goals as goal

pub is_within-returns-in-Cross : goal.is_within-returns-in-Cross
is_within-returns-in-Cross t c =
    one_deeper _ (deepest (map depth c.as_slice.result.now)) c.args.limit (ap depth c.in-Cross.is ∙ depth-Cross c.in-Cross.operands ∙ ap (λ qs. 1 + deepest (map depth qs)) (sym c.as_slice.ensures)) (λ e. omega (arith, c.if-limit-eq0.false, e)) c.are_within.ensures

pub is_within-returns-in-Concat : goal.is_within-returns-in-Concat
is_within-returns-in-Concat t c =
    one_deeper _ (deepest (map depth c.as_slice-in-Concat.result.now)) c.args.limit (ap depth c.in-Concat.is ∙ depth-Concat c.in-Concat.operands ∙ ap (λ qs. 1 + deepest (map depth qs)) (sym c.as_slice-in-Concat.ensures)) (λ e. omega (arith, c.if-limit-eq0.false, e)) c.are_within-in-Concat.ensures

pub are_within-returns-then-not-is_within : goal.are_within-returns-then-not-is_within
are_within-returns-then-not-is_within t c = (λ u. absurd (false≢true u), too_deep depth c.args.rels.now c.loop-rel.rel-index c.rel-item.result c.args.limit c.loop-rel-test.true c.rel-item.is c.if-not-is_within.ensures.1)
