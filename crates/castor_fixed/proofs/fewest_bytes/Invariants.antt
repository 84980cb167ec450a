use Rattle.std.proofs.Common.{◌≡◌, ◌+◌}
use Rattle.castor_fixed.specs.Fields.{width}
use Rattle.castor_fixed.proofs.fewest_bytes.Given as goal

abbrev pub invariant-loop-rest : goal.invariant-loop-rest
invariant-loop-rest l = l.bytes + width l.rest ≡ width l.most

abbrev pub decreases-loop-rest : goal.decreases-loop-rest
decreases-loop-rest l = l.rest
