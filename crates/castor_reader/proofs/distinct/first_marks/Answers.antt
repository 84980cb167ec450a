use Rattle.std.proofs.Common.{◌∙◌, ap, map, not}
use Rattle.castor_val.specs.Values.{value_of}
use Rattle.castor_eval.proofs.FirstLaws.{length-more, marks-more, seen-more}
use Rattle.castor_eval.proofs.ViewLaws.{holds-key, insert-key}
use Rattle.castor_reader.specs.Answers.{values_in}
use Rattle.castor_reader.proofs.RowLaws.{at-view, below-view}
use Rattle.castor_reader.proofs.distinct.first_marks.Goals as goal

pub loop-row-preserved : goal.loop-row-preserved
loop-row-preserved c =
    let key = c.in_ok-cells.cells in
    let keys = c.loop-row.seen.keys in
    let rows = map values_in c.args.rows.now in
    let item = values_in c.row-item.result in
    let within = below-view values_in c.args.rows.now c.loop-row.row-index c.loop-row-test.true in
    let at = at-view values_in c.args.rows.now c.loop-row.row-index c.row-item.result c.loop-row-test.true c.row-item.is in
    let is = ap (map value_of) (c.in_ok-cells.ensures ∙ c.as_slice.ensures.value) in
    let new = c.in-Ok.ensures.added ∙ ap not (holds-key key keys item is) in
    record {
      seen = seen-more _ _ rows c.loop-row.row-index item within at c.loop-row.invariant.seen (insert-key key keys _ item is c.in-Ok.ensures.keys);
      marks = marks-more _ _ _ rows c.loop-row.row-index item c.in-Ok.is_new within at c.loop-row.invariant.seen c.loop-row.invariant.marks c.loop-row.invariant.len new c.in_ok-push.ensures.items;
      len = length-more _ _ _ c.in-Ok.is_new c.loop-row.invariant.len c.in_ok-push.ensures.items;
    }
