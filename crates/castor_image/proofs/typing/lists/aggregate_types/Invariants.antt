use Rattle.std.proofs.Common.{◌≡◌, map, take, Some}
use Rattle.castor_alg.specs.Typing.{aggregate_type, each}
use Rattle.castor_image.proofs.typing.lists.aggregate_types.Given as goal

abbrev pub invariant-loop-agg : goal.invariant-loop-agg
invariant-loop-agg l = each (map (aggregate_type l.columns) (take l.agg-index l.aggs)) ≡ Some l.types.items
