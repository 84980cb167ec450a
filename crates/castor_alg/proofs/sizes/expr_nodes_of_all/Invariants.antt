use Rattle.std.proofs.Common.{◌≡◌, ◌-◌, ◌^◌, min, take}
use Rattle.castor_alg.specs.Sizes.{all_expr_nodes}
use Rattle.castor_alg.proofs.sizes.expr_nodes_of_all.Given as goal

abbrev pub invariant-loop-e : goal.invariant-loop-e
invariant-loop-e l = l.count ≡ min (all_expr_nodes (take l.e-index l.es)) (2 ^ 64 - 1)
