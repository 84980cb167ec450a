use Rattle.std.proofs.Common.{◌∙◌, ap, map, rules}
use Rattle.std.specs.Ordering.{is_lt}
use Rattle.std.proofs.lemmas.Fn.{always_returns_same}
use Rattle.castor_alg.specs.Sorting.{by_keys}
use Rattle.castor_laws.proofs.SortingLaws.{keys_order, order-view, sorted-view, sorted_is}
use Rattle.castor_reader.specs.Answers.{values_in}
use Rattle.castor_reader.proofs.order.sort_rows.Goals as goal

pub returns : goal.returns
returns c =
    let order = order-view values_in (λ a b. is_lt (by_keys c.args.keys.now a b)) (keys_order c.args.keys.now) in
    let sorted = sorted_is (λ a b. is_lt (by_keys c.args.keys.now (values_in a) (values_in b))) order _ _
    (c.in_ok-sort_by.ensures.sorted _ order (always_returns_same _ _ _ (λ a r q k. (ap is_lt (search rules), search rules))))
    (c.sort_by.ensures.stable _ order (always_returns_same _ _ _ (λ a r q k. (ap is_lt (search rules), search rules)))) in
    ap (map values_in) sorted ∙ sorted-view values_in (λ a b. is_lt (by_keys c.args.keys.now a b)) c.args.rows.now.items
