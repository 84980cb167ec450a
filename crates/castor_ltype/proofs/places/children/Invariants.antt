use Rattle.std.proofs.Common.{◌≡◌, map, take}
use Rattle.std.specs.List.{flat_map}
use Rattle.castor_ltype.specs.Places as place
use Rattle.castor_ltype.proofs.places.children.Given as goal

abbrev pub invariant-loop-h : goal.invariant-loop-h
invariant-loop-h l = map (λ h. h.now) l.children.items ≡ flat_map place.children (map (λ h. h.now) (take l.h-index l.held))
