use Rattle.std.proofs.Common.{◌≡◌, map, option_map, take}
use Rattle.std.specs.List.{flat_map}
use Rattle.castor_val.specs.Values.{value_of}
use Rattle.castor_ltype.specs.Places as place
use Rattle.castor_ltype.proofs.scalars.lengths_in.Given as goal

abbrev pub invariant-loop-value : goal.invariant-loop-value
invariant-loop-value l = l.lengths.items ≡ flat_map place.text_length_in (map (option_map value_of) (take l.value-index l.values))
