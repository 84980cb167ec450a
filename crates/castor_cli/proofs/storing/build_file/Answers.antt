use Rattle.castor_cli.proofs.Ends.{ended_refused, ended_stored, not_too_long_refusal, not_too_long_stored, not_usage_refusal, not_usage_stored, stored_since, written_refusal, written_stored}
use Rattle.castor_cli.proofs.Tables.{rose_in_all}
use Rattle.castor_cli.proofs.storing.build_file.Goals as goal

pub returns-in-Ok-clause-how : goal.returns-in-Ok-clause-how
returns-in-Ok-clause-how g c =
    let ends = stored_since _ _ _ (λ rose. rose_in_all _ _ _ (c.prepare.ensures.writes c.args.name.now) rose) c.store-status.ensures.ends in
    rw c.new.ensures.status (ended_stored _ _ (λ name. _) _ _ _ _ _ _ c.in-Ok.ensures.prepares ends)

pub returns-in-Ok-clause-usage : goal.returns-in-Ok-clause-usage
returns-in-Ok-clause-usage g c = rw c.new.ensures.status (not_usage_stored _ _ c.store-status.ensures.ends)

pub returns-in-Err-clause-how : goal.returns-in-Err-clause-how
returns-in-Err-clause-how g c = ended_refused _ _ (λ name. _) _ _ _ _ c.in-Err.ensures.prepares

pub returns-in-Err-clause-usage : goal.returns-in-Err-clause-usage
returns-in-Err-clause-usage g c = not_usage_refusal _ c.in-Err.ensures.prepares.refusal

pub returns-in-Err-clause-written : goal.returns-in-Err-clause-written
returns-in-Err-clause-written g c = written_refusal _ _ _ _ _ c.in-Err.ensures.prepares.refusal c.prepare.ensures.same

pub returns-in-Ok-clause-written : goal.returns-in-Ok-clause-written
returns-in-Ok-clause-written g c =
    let (x, image, known) = c.in-Ok.ensures.prepares in
    rw c.new.ensures.status (written_stored _ _ _ _ _ _ _ _ c.prepare.ensures.same (x, image, known) c.store-status.ensures.ends (rw c.deref.ensures.value at c.store-status.ensures.stored))

pub returns-in-Ok-clause-input : goal.returns-in-Ok-clause-input
returns-in-Ok-clause-input g c = rw c.new.ensures.status (not_too_long_stored _ _ c.store-status.ensures.ends)

pub returns-in-Err-clause-input : goal.returns-in-Err-clause-input
returns-in-Err-clause-input g c = not_too_long_refusal _ c.in-Err.ensures.prepares.refusal
