use Rattle.std.proofs.Common.{◌≡◌, map, take}
use Rattle.castor_alg.specs.declared.expr.Expr.{Col}
use Rattle.castor_flat.proofs.columns.columns_of.Given as goal

abbrev pub invariant-loop-at : goal.invariant-loop-at
invariant-loop-at l = l.columns ≡ map Col (take l.at-index l.numbers)
