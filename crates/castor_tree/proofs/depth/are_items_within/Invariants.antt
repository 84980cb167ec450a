use Rattle.std.proofs.Common.{◌≤◌, take}
use Rattle.std.specs.Prelude.{map}
use Rattle.castor_tree.specs.Sizes.{deepest, item_depth}
use Rattle.castor_tree.proofs.depth.are_items_within.Given as goal

abbrev pub invariant-loop-item : goal.invariant-loop-item
invariant-loop-item l = deepest (map item_depth (take l.item-index l.items)) ≤ l.limit
