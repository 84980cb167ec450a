-- The run scopes that borrowed binders stand for.
use Rattle.std.specs.Prelude.{true, false}
use Rattle.castor_script.specs.declared.binders.Binders.{Binders}
use Rattle.castor_script.specs.declared.binders.Binders.TheVariants.{Outside, Run', Build'}
use Rattle.castor_script.specs.Settled.{RunScopes, no_run_scopes, with_scope}

-- the run scopes within the binders
abbrev pub run_scopes_of : Binders → RunScopes
run_scopes_of Outside = no_run_scopes
run_scopes_of (Run' k p outer) = with_scope true (run_scopes_of outer) k
run_scopes_of (Build' k p outer) = with_scope false (run_scopes_of outer) k
