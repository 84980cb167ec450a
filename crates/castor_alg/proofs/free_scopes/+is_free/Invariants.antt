use Rattle.std.proofs.Common.{◌≡◌, false, take}
use Rattle.std.specs.List.{list_any}
use Rattle.castor_alg.specs.FreeScopes.{is_free}
use Rattle.castor_alg.proofs.free_scopes.+is_free.Given as goal

abbrev pub invariant-is_free_in_any-loop-query : goal.invariant-is_free_in_any-loop-query
invariant-is_free_in_any-loop-query l = list_any (is_free l.scope) (take l.query-index l.queries) ≡ false
