use Rattle.std.proofs.Common.{◌≡◌, drop}
use Rattle.castor_val.specs.Columns.{types_of}
use Rattle.castor_alg.specs.Typing.{same_types}
use Rattle.castor_image.proofs.image.are_of.Given as goal

abbrev pub invariant-loop-at : goal.invariant-loop-at
invariant-loop-at l = same_types l.types (types_of l.columns) ≡ same_types (drop l.at l.types) (types_of (drop l.at l.columns))
