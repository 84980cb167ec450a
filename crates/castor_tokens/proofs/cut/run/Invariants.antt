use Rattle.std.proofs.Common.{◌≡◌, ◌+◌, ◌-◌, ◌<◌, ◌≤◌, length, drop, get_or, true}
use Rattle.castor_tokens.specs.Tokens.{is_in, run}
use Rattle.castor_tokens.proofs.cut.run.Given as goal

abbrev pub invariant-loop-end : goal.invariant-loop-end
invariant-loop-end l = (l.end + run l.class (drop l.end l.z) ≡ run l.class l.z) × (l.end ≤ length l.z) × (0 < l.end → is_in l.class (get_or l.z (l.end - 1) 0) ≡ true)

abbrev pub decreases-loop-end : goal.decreases-loop-end
decreases-loop-end l = length l.z - l.end
