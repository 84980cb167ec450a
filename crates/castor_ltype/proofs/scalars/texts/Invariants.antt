use Rattle.std.proofs.Common.{◌≡◌, ◌+◌, map, option_map, sum, take}
use Rattle.castor_val.specs.Values.{value_of}
use Rattle.castor_ltype.specs.Places as place
use Rattle.castor_ltype.proofs.scalars.texts.Given as goal

abbrev pub invariant-loop-value : goal.invariant-loop-value
invariant-loop-value l = l.sizes.items ≡ map (λ o. sum (map (λ n. l.width + n) (place.text_length_in (option_map value_of o)))) (take l.value-index l.values)
