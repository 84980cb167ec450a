use Rattle.std.proofs.Common.{◌≡◌, take, false}
use Rattle.std.specs.List.{list_any}
use Rattle.castor_script.specs.Binders.{run_scopes_of}
use Rattle.castor_script.specs.Settled.{expr_waits}
use Rattle.castor_script.proofs.settled.any_expr_waits.Given as goal

abbrev pub invariant-loop-e : goal.invariant-loop-e
invariant-loop-e l = list_any (λ e. expr_waits e (run_scopes_of l.binders)) (take l.e-index l.es) ≡ false
