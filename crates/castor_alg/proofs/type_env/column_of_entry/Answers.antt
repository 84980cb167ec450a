use Rattle.std.proofs.Common.{◌<◌, length, arith, ◌∙◌, ap, slice_get}
use Rattle.castor_alg.proofs.TypingLaws.{entry_holds, entry_passes}
use Rattle.castor_alg.proofs.type_env.column_of_entry.Goals as goal
use Rattle.castor_alg.proofs.type_env.column_of_entry.Goals.{then-bound-scope, else-bound-scope}

pub loop-bound-preserved : goal.loop-bound-preserved
loop-bound-preserved c =
    let within : c.loop-bound.bound-index < length c.args.entries.now = omega arith in
    elim c.if-bound-scope.branch [
      | then-bound-scope w ↦ entry_holds _ _ _ _ c.loop-bound-item.result _ within c.loop-bound-item.is w.if-bound-scope.true (w.found-is ∙ w.type_at-found.ensures ∙ ap (λ types. slice_get types c.args.at) w.as_slice.ensures)
      | else-bound-scope w ↦ entry_passes _ _ _ _ c.loop-bound-item.result _ within c.loop-bound-item.is w.if-bound-scope.false (w.found-is ∙ c.loop-bound.invariant)
    ]
