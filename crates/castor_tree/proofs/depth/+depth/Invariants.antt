use Rattle.std.proofs.Common.{◌≤◌, take}
use Rattle.std.specs.Prelude.{map}
use Rattle.castor_tree.specs.Sizes.{deepest, depth}
use Rattle.castor_tree.proofs.depth.+depth.Given as goal

abbrev pub invariant-are_within-loop-rel : goal.invariant-are_within-loop-rel
invariant-are_within-loop-rel l = deepest (map depth (take l.rel-index l.rels)) ≤ l.limit
