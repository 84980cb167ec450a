use Rattle.castor_cli.proofs.Ends.{ended_built, ended_refused, not_usage_opened, not_usage_refusal, printed_known, printed_refusal, taken_refusal}
use Rattle.castor_cli.proofs.asking.answer.Goals as goal

pub returns-in-Ok-clause-printed : goal.returns-in-Ok-clause-printed
returns-in-Ok-clause-printed g c =
    let (x, image, known) = c.in-Ok.ensures.prepares in
    rw c.new.ensures.status (printed_known _ _ _ _ _ x _ _ image known (rw c.deref.ensures.value at c.answer_image-status.ensures.printed))

pub returns-in-Ok-clause-how : goal.returns-in-Ok-clause-how
returns-in-Ok-clause-how g c =
    λ image. rw c.new.ensures.status (ended_built _ _ (λ name. _) _ _ _ _ _ _ _ c.in-Ok.ensures.prepares (rw c.deref.ensures.value at c.answer_image-status.ensures.ends))

pub returns-in-Ok-clause-usage : goal.returns-in-Ok-clause-usage
returns-in-Ok-clause-usage g c = rw c.new.ensures.status (not_usage_opened _ _ _ _ c.answer_image-status.ensures.ends)

pub returns-in-Err-clause-printed : goal.returns-in-Err-clause-printed
returns-in-Err-clause-printed g c = printed_refusal _ _ _ _ _ c.in-Err.ensures.prepares.refusal

pub returns-in-Err-clause-taken : goal.returns-in-Err-clause-taken
returns-in-Err-clause-taken g c = taken_refusal _ _ c.in-Err.ensures.prepares.refusal

pub returns-in-Err-clause-usage : goal.returns-in-Err-clause-usage
returns-in-Err-clause-usage g c = not_usage_refusal _ c.in-Err.ensures.prepares.refusal

pub returns-in-Err-clause-how : goal.returns-in-Err-clause-how
returns-in-Err-clause-how g c = λ image. ended_refused _ _ (λ name. _) _ _ _ _ c.in-Err.ensures.prepares
