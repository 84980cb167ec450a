use Rattle.std.proofs.Common.{◌≡◌, false, take}
use Rattle.std.specs.List.{list_any}
use Rattle.castor_alg.specs.FreeScopes.{reads}
use Rattle.castor_alg.proofs.free_scopes.is_read_in_any.Given as goal

abbrev pub invariant-loop-e : goal.invariant-loop-e
invariant-loop-e l = list_any (reads l.scope) (take l.e-index l.es) ≡ false
