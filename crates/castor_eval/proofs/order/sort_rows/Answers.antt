use Rattle.std.proofs.Common.{rules, ap}
use Rattle.std.specs.Ordering.{is_lt}
use Rattle.std.proofs.lemmas.Fn.{always_returns_same}
use Rattle.castor_alg.specs.Sorting.{by_keys}
use Rattle.castor_laws.proofs.SortingLaws.{keys_order, sorted_is}
use Rattle.castor_eval.proofs.order.sort_rows.Goals as goal

pub returns : goal.returns
returns c =
    let order = keys_order c.args.keys.now in
    sorted_is (λ a b. is_lt (by_keys c.args.keys.now a b)) order _ _
    (c.in_ok-sort_by.ensures.sorted _ order (always_returns_same _ _ _ (λ a r q k. (ap is_lt (search rules), search rules))))
    (c.sort_by.ensures.stable _ order (always_returns_same _ _ _ (λ a r q k. (ap is_lt (search rules), search rules))))
