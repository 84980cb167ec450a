use Rattle.std.proofs.Common.{◌≡◌, take}
use Rattle.castor_alg.specs.Sizes.{deepest}
use Rattle.castor_alg.proofs.sizes.level_over.Given as goal

abbrev pub invariant-loop-part : goal.invariant-loop-part
invariant-loop-part l = l.most ≡ deepest (take l.part-index l.parts)
