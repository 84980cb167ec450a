use Rattle.std.proofs.Common.{◌≡◌, map, option_map, take}
use Rattle.castor_val.specs.Values.{value_of}
use Rattle.castor_ltype.specs.Places as place
use Rattle.castor_ltype.proofs.places.key_values.Given as goal

abbrev pub invariant-loop-entry : goal.invariant-loop-entry
invariant-loop-entry l = map (option_map value_of) l.values.items ≡ map (place.key_value l.at) (map (λ e. e.now) (take l.entry-index l.entries))
