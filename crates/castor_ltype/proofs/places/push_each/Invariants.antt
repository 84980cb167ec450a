use Rattle.std.proofs.Common.{◌≡◌, ◌++◌, map, take}
use Rattle.castor_ltype.proofs.places.push_each.Given as goal

abbrev pub invariant-loop-thing : goal.invariant-loop-thing
invariant-loop-thing g l = map (λ thing. thing.now) l.all.items ≡ map (λ thing. thing.now) l.fn.all.items ++ take l.thing-index l.more
