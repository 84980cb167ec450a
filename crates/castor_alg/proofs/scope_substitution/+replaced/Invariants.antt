use Rattle.std.proofs.Common.{◌≡◌, map, take}
use Rattle.castor_alg.specs.Substitution.{subst_scope}
use Rattle.castor_alg.proofs.scope_substitution.+replaced.Given as goal

abbrev pub invariant-replaced_all-loop-query : goal.invariant-replaced_all-loop-query
invariant-replaced_all-loop-query l = l.made ≡ map (subst_scope l.scope l.by) (take l.query-index l.queries)
