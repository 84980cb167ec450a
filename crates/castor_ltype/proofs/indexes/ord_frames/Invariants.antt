use Rattle.std.proofs.Common.{◌≡◌, map, take}
use Rattle.castor_code.specs.Shapes.{keyed_of}
use Rattle.castor_ltype.specs.Sizes as size
use Rattle.castor_ltype.proofs.indexes.ord_frames.Given as goal

abbrev pub invariant-loop-h : goal.invariant-loop-h
invariant-loop-h l = l.frames.items ≡ map (λ h. size.ord_frame l.count l.body (keyed_of h)) (map (λ h. h.now) (take l.h-index l.held))
