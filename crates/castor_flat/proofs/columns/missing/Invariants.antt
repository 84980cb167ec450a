use Rattle.std.proofs.Common.{◌≡◌, false, replicate}
use Rattle.castor_val.specs.declared.value.Value.TheVariants.{Bool as Truth}
use Rattle.castor_alg.specs.declared.expr.Expr.{Lit}
use Rattle.castor_flat.proofs.columns.missing.Given as goal

abbrev pub invariant-loop-at : goal.invariant-loop-at
invariant-loop-at l = l.columns ≡ replicate l._at (Lit (Truth false))
