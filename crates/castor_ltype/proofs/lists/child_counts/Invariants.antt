use Rattle.std.proofs.Common.{◌≡◌, length, map, take}
use Rattle.castor_ltype.specs.Places as place
use Rattle.castor_ltype.proofs.lists.child_counts.Given as goal

abbrev pub invariant-loop-h : goal.invariant-loop-h
invariant-loop-h l = l.counts.items ≡ map (λ h. length (place.children h)) (map (λ h. h.now) (take l.h-index l.held))
