use Rattle.std.proofs.Common.{◌≡◌, ◌-◌, ◌^◌, map, min, sum, take}
use Rattle.castor_alg.specs.Sizes.{nodes}
use Rattle.castor_alg.proofs.sizes.+nodes.Given as goal

abbrev pub invariant-nodes_of_all-loop-query : goal.invariant-nodes_of_all-loop-query
invariant-nodes_of_all-loop-query l = l.count ≡ min (sum (map nodes (take l.query-index l.queries))) (2 ^ 64 - 1)
