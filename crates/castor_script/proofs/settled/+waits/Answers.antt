use Rattle.std.proofs.Common.{◌∙◌, ap}
use Rattle.castor_alg.specs.declared.rel.Rel.{Rel}
use Rattle.castor_alg.proofs.RelInduction.{fold-Cross, fold-Concat}
use Rattle.castor_script.specs.Binders.{run_scopes_of}
use Rattle.castor_script.specs.Settled.{Waiting, waits, waits_step}
use Rattle.castor_script.proofs.WaitLaws.{operands_wait}
use Rattle.castor_script.proofs.settled.+waits.Goals as goal

pub waits-returns-in-Cross : goal.waits-returns-in-Cross
waits-returns-in-Cross t c =
    operands_wait (run_scopes_of c.args.binders.now) _ _ _ _
    (ap (λ (q : Rel). waits q (run_scopes_of c.args.binders.now)) c.in-Cross.is ∙ ap (λ (w : Waiting). w (run_scopes_of c.args.binders.now)) (fold-Cross Waiting waits_step c.in-Cross.rs))
    c.as_slice.ensures c.any_waits.ensures

pub waits-returns-in-Concat : goal.waits-returns-in-Concat
waits-returns-in-Concat t c =
    operands_wait (run_scopes_of c.args.binders.now) _ _ _ _
    (ap (λ (q : Rel). waits q (run_scopes_of c.args.binders.now)) c.in-Concat.is ∙ ap (λ (w : Waiting). w (run_scopes_of c.args.binders.now)) (fold-Concat Waiting waits_step c.in-Concat.rs))
    c.as_slice-in-Concat.ensures c.any_waits-in-Concat.ensures
