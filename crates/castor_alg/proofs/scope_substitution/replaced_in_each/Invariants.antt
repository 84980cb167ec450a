use Rattle.std.proofs.Common.{◌≡◌, map, take}
use Rattle.castor_alg.specs.Substitution.{subst_scope_expr}
use Rattle.castor_alg.proofs.scope_substitution.replaced_in_each.Given as goal

abbrev pub invariant-loop-e : goal.invariant-loop-e
invariant-loop-e l = l.made ≡ map (subst_scope_expr l.scope l.by) (take l.e-index l.es)
