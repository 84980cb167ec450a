use Rattle.std.proofs.Common.{◌≡◌, map, take}
use Rattle.castor_ltype.specs.Generation as generation
use Rattle.castor_ltype.proofs.places.kids.Given as goal

abbrev pub invariant-loop-entry : goal.invariant-loop-entry
invariant-loop-entry l = map (λ h. h.now) l.kids.items ≡ generation.kids (map (λ e. e.now) (take l.entry-index l.entries))
