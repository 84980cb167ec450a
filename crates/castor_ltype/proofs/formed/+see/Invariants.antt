use Rattle.std.proofs.Common.{◌≡◌, true, take}
use Rattle.std.specs.List.{list_all}
use Rattle.castor_ltype.specs.Formed.{is_sized}
use Rattle.castor_ltype.proofs.formed.+see.Given as goal

abbrev pub invariant-see_each-loop-code : goal.invariant-see_each-loop-code
invariant-see_each-loop-code l = list_all is_sized (take l.code-index l.codes) ≡ true
