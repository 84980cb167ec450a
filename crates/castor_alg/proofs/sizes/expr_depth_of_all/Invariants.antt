use Rattle.std.proofs.Common.{◌≡◌, ◌-◌, ◌^◌, min, take}
use Rattle.castor_alg.specs.Sizes.{deepest_expr}
use Rattle.castor_alg.proofs.sizes.expr_depth_of_all.Given as goal

abbrev pub invariant-loop-e : goal.invariant-loop-e
invariant-loop-e l = l.most ≡ min (deepest_expr (take l.e-index l.es)) (2 ^ 64 - 1)
