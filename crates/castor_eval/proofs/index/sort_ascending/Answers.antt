use Rattle.std.proofs.Common.{Bor, map, rules, ap, ◌∙◌}
use Rattle.std.specs.Ordering.{is_lt}
use Rattle.std.proofs.lemmas.Fn.{always_returns_same}
use Rattle.castor_val.specs.declared.row.Row.{Row}
use Rattle.castor_alg.specs.Sorting.{row_lt}
use Rattle.castor_laws.proofs.SortingLaws.{order-view, rows_order, sorted_is, sorted-view}
use Rattle.castor_eval.proofs.index.sort_ascending.Goals as goal

pub returns : goal.returns
returns c =
    let order = order-view (λ (r : Bor Row). r.now) row_lt rows_order in
    let sorted = sorted_is (λ (a b : Bor Row). row_lt a.now b.now) order _ _
    (c.in_ok-sort_by.ensures.sorted _ order (always_returns_same _ _ _ (λ a r q k. (ap is_lt (search rules), search rules))))
    (c.sort_by.ensures.stable _ order (always_returns_same _ _ _ (λ a r q k. (ap is_lt (search rules), search rules)))) in
    ap (map (λ (r : Bor Row). r.now)) sorted ∙ sorted-view (λ (r : Bor Row). r.now) row_lt c.args.rows.now.items
