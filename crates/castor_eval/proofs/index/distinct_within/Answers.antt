use Rattle.std.proofs.Common.{◌∙◌, ◌&&◌, Bool, Bor, ap, filter, get_or, map, sym, true, false}
use Rattle.std.proofs.lemmas.List.{map-append}
use Rattle.castor_val.specs.declared.row.Row.{Row}
use Rattle.castor_val.specs.Values.{column}
use Rattle.castor_eval.specs.Ranges.{above, below}
use Rattle.castor_eval.proofs.MarkLaws.{marked-none, picked-more}
use Rattle.castor_eval.proofs.index.distinct_within.Goals as goal
use Rattle.castor_eval.proofs.index.distinct_within.Goals.{then-is_picked+in_ok-push, else-is_picked}

pub loop-at-init : goal.loop-at-init
loop-at-init c = ap (map (λ row. row.now)) c.new-found.ensures.items ∙ ap (filter (λ (a : Row). above c.args.from.now (column a 0) && below c.args.to.now (column a 0))) (sym (marked-none c.in_ok-marks.marks.items))

pub loop-at-preserved : goal.loop-at-preserved
loop-at-preserved c =
    let within : Row → Bool = λ a. above c.args.from.now (column a 0) && below c.args.to.now (column a 0) in
    let is = c.is_picked.ensures ∙ ap (λ ms. get_or ms c.loop-at.at false && within c.index-rows-at.result) c.as_slice.ensures.value in
    elim c.if-is_picked.branch [
      | then-is_picked+in_ok-push w ↦
          picked-more within c.in_ok-marks.marks.items c.args.rows.now c.loop-at.at c.index-rows-at.result true _ _ c.loop-at-test.true c.index-rows-at.is c.loop-at.invariant (sym w.if-is_picked.true ∙ is)
          (ap (λ v. map (λ (r : Bor Row). r.now) v.items) w.found-is ∙ ap (map (λ (r : Bor Row). r.now)) w.in_ok-push.ensures.items ∙ map-append (λ (r : Bor Row). r.now) c.loop-at.found.items _)
      | else-is_picked w ↦
          picked-more within c.in_ok-marks.marks.items c.args.rows.now c.loop-at.at c.index-rows-at.result false _ _ c.loop-at-test.true c.index-rows-at.is c.loop-at.invariant (sym w.if-is_picked.false ∙ is)
          (ap (λ v. map (λ (r : Bor Row). r.now) v.items) w.found-is)
    ]
