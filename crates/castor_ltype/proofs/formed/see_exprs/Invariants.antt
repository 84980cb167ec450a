use Rattle.std.proofs.Common.{◌≡◌, true, take}
use Rattle.std.specs.List.{list_all}
use Rattle.castor_ltype.specs.Formed.{is_sized_expr}
use Rattle.castor_ltype.proofs.formed.see_exprs.Given as goal

abbrev pub invariant-loop-e : goal.invariant-loop-e
invariant-loop-e l = list_all is_sized_expr (take l.e-index l.es) ≡ true
