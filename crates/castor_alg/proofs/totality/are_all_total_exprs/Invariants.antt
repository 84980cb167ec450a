use Rattle.std.proofs.Common.{◌≡◌, true, take}
use Rattle.std.specs.List.{list_all}
use Rattle.castor_alg.specs.Totality.{is_total_expr}
use Rattle.castor_alg.proofs.totality.are_all_total_exprs.Given as goal

abbrev pub invariant-loop-e : goal.invariant-loop-e
invariant-loop-e l = list_all is_total_expr (take l.e-index l.es) ≡ true
