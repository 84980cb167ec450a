use Rattle.std.proofs.Common.{◌≡◌, map, take}
use Rattle.castor_alg.specs.declared.rel.Rel.{Filter}
use Rattle.castor_flat.proofs.filter_concat.filter_over_each.Given as goal

abbrev pub invariant-loop-r : goal.invariant-loop-r
invariant-loop-r l = l.filters ≡ map (Filter l.condition) (take l.r-index l.rs)
