use Rattle.std.proofs.Common.{◌≡◌, ◌++◌, drop}
use Rattle.castor_ltype.specs.Sizes as size
use Rattle.castor_ltype.proofs.sizes.added.Given as goal

abbrev pub invariant-loop-size : goal.invariant-loop-size
invariant-loop-size l = l.sums.items ++ size.added (drop l.size-index l.sizes) l.rest ≡ size.added l.sizes l.more
