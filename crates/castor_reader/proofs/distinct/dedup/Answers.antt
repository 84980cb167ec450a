use Rattle.std.proofs.Common.{◌∙◌, ap, map, sym}
use Rattle.castor_val.specs.Values.{same_row}
use Rattle.castor_alg.specs.Distinct.{distinct}
use Rattle.castor_eval.specs.Marks.{marked}
use Rattle.castor_reader.specs.Answers.{values_in}
use Rattle.castor_reader.proofs.RowLaws.{marked-view}
use Rattle.castor_reader.proofs.distinct.dedup.Goals as goal

pub returns : goal.returns
returns c =
    let rows = c.args.from.rows.items in
    let marks = c.in_ok-marks.marks.items in
    let kept = ap (map values_in) (c.in_ok-keep_marked.ensures ∙ ap (λ ms. marked ms rows) c.as_slice-2.ensures.value) ∙ marked-view values_in marks rows in
    let first = c.in_ok-marks.ensures in
    let all = ap (λ rs. marked marks (map values_in rs)) (c.as_slice.ensures.value) in
    let found = ap (λ rs. distinct same_row (map values_in rs)) (c.as_slice.ensures.value) in
    (λ i. record { rows = (kept ∙ sym all ∙ first ∙ found) i; faults = c.args.from.faults })
