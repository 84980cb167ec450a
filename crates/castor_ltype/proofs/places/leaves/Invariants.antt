use Rattle.std.proofs.Common.{◌≡◌, map, option_map, take}
use Rattle.castor_val.specs.Values.{value_of}
use Rattle.castor_code.specs.Shapes.{leaf_of}
use Rattle.castor_ltype.proofs.places.leaves.Given as goal

abbrev pub invariant-loop-h : goal.invariant-loop-h
invariant-loop-h l = map (option_map value_of) l.leaves.items ≡ map leaf_of (map (λ h. h.now) (take l.h-index l.held))
