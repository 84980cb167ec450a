use Rattle.std.proofs.Common.{◌≡◌, length, map, option_map, take}
use Rattle.castor_val.specs.Values.{value_of}
use Rattle.castor_code.specs.Pieces.{bool_piece}
use Rattle.castor_ltype.proofs.scalars.bools.Given as goal

abbrev pub invariant-loop-value : goal.invariant-loop-value
invariant-loop-value l = l.sizes.items ≡ map (λ o. length (bool_piece (option_map value_of o)).bytes) (take l.value-index l.values)
