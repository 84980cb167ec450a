use Rattle.std.proofs.Common.{◌∙◌, ap, not}
use Rattle.castor_eval.proofs.FirstLaws.{length-more, marks-more, seen-more}
use Rattle.castor_eval.proofs.ViewLaws.{holds-key, insert-key}
use Rattle.castor_eval.proofs.distinct.first_marks.Goals as goal

pub loop-row-preserved : goal.loop-row-preserved
loop-row-preserved c =
    let key = c.in_ok-cells.cells in
    let keys = c.loop-row.seen.keys in
    let is = c.in_ok-cells.ensures in
    let new = c.in-Ok.ensures.added ∙ ap not (holds-key key keys c.row-item.result is) in
    record {
      seen = seen-more _ _ c.args.rows.now c.loop-row.row-index c.row-item.result c.loop-row-test.true c.row-item.is c.loop-row.invariant.seen (insert-key key keys _ c.row-item.result is c.in-Ok.ensures.keys);
      marks = marks-more _ _ _ c.args.rows.now c.loop-row.row-index c.row-item.result c.in-Ok.is_new c.loop-row-test.true c.row-item.is c.loop-row.invariant.seen c.loop-row.invariant.marks c.loop-row.invariant.len new c.in_ok-push.ensures.items;
      len = length-more _ _ _ c.in-Ok.is_new c.loop-row.invariant.len c.in_ok-push.ensures.items;
    }
