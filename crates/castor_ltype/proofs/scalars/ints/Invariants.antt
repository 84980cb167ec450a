use Rattle.std.proofs.Common.{◌≡◌, ◌*◌, length, map, option_map, take}
use Rattle.castor_val.specs.Values.{value_of}
use Rattle.castor_ltype.specs.Places as place
use Rattle.castor_ltype.proofs.scalars.ints.Given as goal

abbrev pub invariant-loop-value : goal.invariant-loop-value
invariant-loop-value l = l.sizes.items ≡ map (λ o. l.width * length (place.int_in (option_map value_of o))) (take l.value-index l.values)
