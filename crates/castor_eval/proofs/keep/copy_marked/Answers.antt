use Rattle.std.proofs.Common.{◌∙◌, ◌++◌, ◌∷◌, [], sym, ap, true, false, append-nil}
use Rattle.castor_eval.proofs.MarkLaws.{marked-none, marked-more}
use Rattle.castor_eval.proofs.keep.copy_marked.Goals as goal
use Rattle.castor_eval.proofs.keep.copy_marked.Goals.{then-is_marked+in_ok-copy+in_ok-push, else-is_marked}

pub loop-at-init : goal.loop-at-init
loop-at-init c = c.new-kept.ensures ∙ sym (marked-none c.args.marks.now)

pub loop-at-preserved : goal.loop-at-preserved
loop-at-preserved c =
    elim c.if-is_marked.branch [
      | then-is_marked+in_ok-copy+in_ok-push w ↦
          let more = marked-more true c.args.marks.now c.args.rows.now c.loop-at.at c.index-rows-at.result c.loop-at-test.true c.index-rows-at.is (sym c.is_marked.ensures ∙ w.if-is_marked.true) in
          w.kept-is ∙ w.in_ok-push.ensures.ok ∙ ap (λ r. c.loop-at.kept ++ r ∷ []) w.in_ok-copy.ensures ∙ ap (λ ks. ks ++ c.index-rows-at.result ∷ []) c.loop-at.invariant ∙ sym more
      | else-is_marked w ↦
          let more = marked-more false c.args.marks.now c.args.rows.now c.loop-at.at c.index-rows-at.result c.loop-at-test.true c.index-rows-at.is (sym c.is_marked.ensures ∙ w.if-is_marked.false) in
          w.kept-is ∙ c.loop-at.invariant ∙ sym (append-nil _) ∙ sym more
    ]
