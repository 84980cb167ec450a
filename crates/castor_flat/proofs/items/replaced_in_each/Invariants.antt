use Rattle.std.proofs.Common.{◌≡◌, map, take}
use Rattle.castor_alg.specs.Substitution.{subst_cols}
use Rattle.castor_flat.proofs.items.replaced_in_each.Given as goal

abbrev pub invariant-loop-e : goal.invariant-loop-e
invariant-loop-e l = l.replaced ≡ map (subst_cols l.by) (take l.e-index l.es)
