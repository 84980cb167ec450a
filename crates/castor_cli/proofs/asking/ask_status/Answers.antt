use Rattle.castor_cli.proofs.Ends.{ended_opened, not_usage_opened, printed_opened}
use Rattle.castor_cli.proofs.Opening.{ended_unread, file_opened, file_opens, not_usage_unread, printed_unread, taken_unread}
use Rattle.castor_cli.proofs.asking.ask_status.Goals as goal

pub returns-in-Ok-clause-printed : goal.returns-in-Ok-clause-printed
returns-in-Ok-clause-printed g c =
    printed_opened _ _ _ _ _ _ _ (file_opened _ _ _ c.in-Ok.ensures.reading) (rw c.deref.ensures.value at c.answer_image.ensures.printed)

pub returns-in-Ok-clause-how : goal.returns-in-Ok-clause-how
returns-in-Ok-clause-how g c =
    λ query script table. ended_opened _ _ (λ name. _) _ _ _ _ _ _ _ (file_opens _ _ _ c.in-Ok.ensures.reading) (rw c.deref.ensures.value at c.answer_image.ensures.ends)

pub returns-in-Ok-clause-usage : goal.returns-in-Ok-clause-usage
returns-in-Ok-clause-usage g c = not_usage_opened _ _ _ _ c.answer_image.ensures.ends

pub returns-in-Err-clause-printed : goal.returns-in-Err-clause-printed
returns-in-Err-clause-printed g c = printed_unread _ _ _ _ _ c.in-Err.ensures.reading.error

pub returns-in-Err-clause-taken : goal.returns-in-Err-clause-taken
returns-in-Err-clause-taken g c = taken_unread _ _ c.in-Err.ensures.reading.error

pub returns-in-Err-clause-usage : goal.returns-in-Err-clause-usage
returns-in-Err-clause-usage g c = not_usage_unread _ c.in-Err.ensures.reading.error

pub returns-in-Err-clause-how : goal.returns-in-Err-clause-how
returns-in-Err-clause-how g c = λ query script table. ended_unread _ _ (λ name. _) _ _ _ _ c.in-Err.ensures.reading
