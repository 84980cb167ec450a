use Rattle.std.proofs.Common.{◌∙◌, ap, sym, true, false}
use Rattle.std.proofs.lemmas.List.{nil_from_length}
use Rattle.castor_eval.proofs.MarkLaws.{marked-next, marked-over}
use Rattle.castor_reader.proofs.keep.keep_marked.Goals as goal
use Rattle.castor_reader.proofs.keep.keep_marked.Goals.{in-Some+then-mark+in_ok-push, in-Some+else-mark, in_default}

pub loop-mark-preserved : goal.loop-mark-preserved
loop-mark-preserved c =
    elim c.match-next.branch [
      | in-Some+then-mark+in_ok-push w ↦
          marked-next true c.loop-mark.kept.items _ _ c.args.marks.now c.loop-mark.mark-index w.in-Some.row _ _
          c.loop-mark-test.true w.if-mark.true w.in-Some.ensures.items (ap (λ v. v.items) w.kept-is ∙ w.in_ok-push.ensures.items) c.loop-mark.invariant
      | in-Some+else-mark w ↦
          marked-next false c.loop-mark.kept.items _ _ c.args.marks.now c.loop-mark.mark-index w.in-Some.row _ _
          c.loop-mark-test.true w.if-mark.false w.in-Some.ensures.items (ap (λ v. v.items) w.kept-is) c.loop-mark.invariant
      | in_default w ↦
          let none = nil_from_length c.loop-mark.rest.rest.items (sym c.loop-mark.rest.rest.ok.0 ∙ w.in_default.ensures.cases.0) in
          marked-over c.loop-mark.kept.items _ _ c.args.marks.now c.loop-mark.mark-index _ _ none (sym w.in_default.ensures.items) (ap (λ v. v.items) w.kept-is) c.loop-mark.invariant
    ]
