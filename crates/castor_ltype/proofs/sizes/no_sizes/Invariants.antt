use Rattle.std.proofs.Common.{◌≡◌, map, take}
use Rattle.castor_ltype.proofs.sizes.no_sizes.Given as goal

abbrev pub invariant-loop-thing : goal.invariant-loop-thing
invariant-loop-thing g l = l.sizes.items ≡ map (λ thing. 0) (take l._thing-index l.things)
