use Rattle.std.proofs.Common.{◌≡◌, map, take}
use Rattle.std.specs.List.{flat_map}
use Rattle.castor_ltype.specs.Places as place
use Rattle.castor_ltype.proofs.places.entries.Given as goal

abbrev pub invariant-loop-h : goal.invariant-loop-h
invariant-loop-h l = map (λ e. e.now) l.entries.items ≡ flat_map place.entries (map (λ h. h.now) (take l.h-index l.held))
