use Rattle.std.proofs.Common.{◌≡◌, map, take}
use Rattle.std.specs.List.{flat_map}
use Rattle.castor_image.proofs.typing.lists.cross_types.Given as goal

abbrev pub invariant-loop-types : goal.invariant-loop-types
invariant-loop-types l = l.columns.items ≡ flat_map (λ types. types) (map (λ types. types.items) (take l.types-index l.operands))
