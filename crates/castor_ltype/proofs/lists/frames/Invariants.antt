use Rattle.std.proofs.Common.{◌≡◌, map, take}
use Rattle.castor_code.specs.Shapes.{rows_of}
use Rattle.castor_ltype.specs.Sizes.{list_frame}
use Rattle.castor_ltype.proofs.lists.frames.Given as goal

abbrev pub invariant-loop-h : goal.invariant-loop-h
invariant-loop-h l = l.frames.items ≡ map (λ h. list_frame l.count l.body (rows_of h)) (map (λ h. h.now) (take l.h-index l.held))
