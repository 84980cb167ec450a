use Rattle.std.proofs.Common.{◌≡◌, ◌-◌, ◌^◌, map, min, take}
use Rattle.castor_alg.specs.Sizes.{deepest, depth}
use Rattle.castor_alg.proofs.sizes.+depth.Given as goal

abbrev pub invariant-depth_of_all-loop-query : goal.invariant-depth_of_all-loop-query
invariant-depth_of_all-loop-query l = l.most ≡ min (deepest (map depth (take l.query-index l.queries))) (2 ^ 64 - 1)
