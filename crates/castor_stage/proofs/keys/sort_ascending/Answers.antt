use Rattle.std.proofs.Common.{rules, ap}
use Rattle.std.specs.Ordering.{is_lt}
use Rattle.std.proofs.lemmas.Fn.{always_returns_same}
use Rattle.castor_alg.specs.Sorting.{row_lt}
use Rattle.castor_laws.proofs.SortingLaws.{rows_order, sorted_is}
use Rattle.castor_stage.proofs.keys.sort_ascending.Goals as goal

pub returns : goal.returns
returns c =
    sorted_is row_lt rows_order _ _
    (c.in_ok-sort_by.ensures.sorted _ rows_order (always_returns_same _ _ _ (λ a r q k. (ap is_lt (search rules), search rules))))
    (c.sort_by.ensures.stable _ rows_order (always_returns_same _ _ _ (λ a r q k. (ap is_lt (search rules), search rules))))
