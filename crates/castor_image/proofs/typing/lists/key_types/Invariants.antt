use Rattle.std.proofs.Common.{◌≡◌, map, take, slice_get, Some}
use Rattle.castor_alg.specs.Typing.{each}
use Rattle.castor_image.proofs.typing.lists.key_types.Given as goal

abbrev pub invariant-loop-key : goal.invariant-loop-key
invariant-loop-key l = each (map (λ k. slice_get l.columns k) (take l.key-index l.keys)) ≡ Some l.types.items
