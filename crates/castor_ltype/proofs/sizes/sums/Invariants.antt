use Rattle.std.proofs.Common.{◌≡◌, ◌++◌, drop}
use Rattle.castor_ltype.specs.Sizes as size
use Rattle.castor_ltype.proofs.sizes.sums.Given as goal

abbrev pub invariant-loop-count : goal.invariant-loop-count
invariant-loop-count l = l.sums.items ++ size.sums (drop l.count-index l.counts) l.rest ≡ size.sums l.counts l.sizes
