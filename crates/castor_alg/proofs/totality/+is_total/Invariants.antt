use Rattle.std.proofs.Common.{◌≡◌, true, take}
use Rattle.std.specs.List.{list_all}
use Rattle.castor_alg.specs.Totality.{is_total}
use Rattle.castor_alg.proofs.totality.+is_total.Given as goal

abbrev pub invariant-are_all_total-loop-query : goal.invariant-are_all_total-loop-query
invariant-are_all_total-loop-query l = list_all is_total (take l.query-index l.queries) ≡ true
