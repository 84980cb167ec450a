use Rattle.std.proofs.Common.{◌≡◌, take, false}
use Rattle.std.specs.List.{list_any}
use Rattle.castor_script.specs.Binders.{run_scopes_of}
use Rattle.castor_script.specs.Settled.{waits}
use Rattle.castor_script.proofs.settled.+waits.Given as goal

abbrev pub invariant-any_waits-loop-query : goal.invariant-any_waits-loop-query
invariant-any_waits-loop-query l = list_any (λ r. waits r (run_scopes_of l.binders)) (take l.query-index l.queries) ≡ false
