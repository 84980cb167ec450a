use Rattle.std.proofs.Common.{◌≡◌, ◌-◌, map}
use Rattle.std.specs.List.{range_with_len}
use Rattle.castor_alg.specs.declared.expr.Expr.{Col}
use Rattle.castor_flat.proofs.columns.columns_between.Given as goal

abbrev pub invariant-loop-at : goal.invariant-loop-at
invariant-loop-at l = l.columns ≡ map Col (range_with_len l.from (l.at - l.from))
