use Rattle.std.proofs.Common.{◌≡◌, map, take}
use Rattle.castor_alg.specs.declared.rel.Rel.{Select}
use Rattle.castor_flat.proofs.select_concat.select_over_each.Given as goal

abbrev pub invariant-loop-r : goal.invariant-loop-r
invariant-loop-r l = l.selects ≡ map (Select l.items) (take l.r-index l.rs)
