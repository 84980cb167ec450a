use Rattle.std.proofs.Common.{◌≡◌, ◌+◌, ◌-◌, ◌^◌, min, sum, take}
use Rattle.castor_alg.proofs.sizes.node_over.Given as goal

abbrev pub invariant-loop-part : goal.invariant-loop-part
invariant-loop-part l = l.count ≡ min (1 + sum (take l.part-index l.parts)) (2 ^ 64 - 1)
