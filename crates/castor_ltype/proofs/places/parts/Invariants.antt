use Rattle.std.proofs.Common.{◌≡◌, map, take}
use Rattle.castor_ltype.specs.Places as place
use Rattle.castor_ltype.proofs.places.parts.Given as goal

abbrev pub invariant-loop-h : goal.invariant-loop-h
invariant-loop-h l = map (λ h. h.now) l.parts.items ≡ map (place.part l.at) (map (λ h. h.now) (take l.h-index l.held))
