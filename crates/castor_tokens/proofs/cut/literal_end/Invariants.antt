use Rattle.std.proofs.Common.{◌≡◌, ◌+◌, ◌-◌, ◌≤◌, length, drop, false}
use Rattle.castor_tokens.specs.Tokens.{literal_end}
use Rattle.castor_tokens.proofs.cut.literal_end.Given as goal

abbrev pub invariant-loop-z : goal.invariant-loop-z
invariant-loop-z l = (literal_end l.is_second l.at l.z ≡ literal_end false 1 l.initial.z) × (l.at + length l.z ≡ length l.initial.z + 1) × (1 ≤ l.at) × (l.z ≡ drop (l.at - 1) l.initial.z)

abbrev pub decreases-loop-z : goal.decreases-loop-z
decreases-loop-z l = length l.z
