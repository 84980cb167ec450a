-- What `order-under-filter` makes is equivalent.
use Rattle.std.proofs.Common.{◌≡◌, ◌∙◌, List, sym, ap, subst, Ok}
use Rattle.castor_val.specs.declared.row.Row.{Row}
use Rattle.castor_alg.specs.declared.context.Context.{Context}
use Rattle.castor_alg.specs.declared.expr.Expr.{Expr}
use Rattle.castor_alg.specs.declared.rel.Key.{Key}
use Rattle.castor_alg.specs.declared.rel.Rel.{Rel, Filter, Order}
use Rattle.castor_alg.specs.Equivalence.{Equivalent}
use Rattle.castor_alg.specs.Expression.{expr_value}
use Rattle.castor_alg.specs.Meaning.{meaning}
use Rattle.castor_alg.specs.Permutation.{SameUpToOrder}
use Rattle.castor_alg.specs.Rows.{filtered}
use Rattle.castor_alg.specs.Sorting.{sorted_by}
use Rattle.castor_alg.specs.Typing.{Typed}
use Rattle.castor_laws.proofs.ExchangeLaws.{sorts_under_filter}
use Rattle.castor_laws.proofs.OperandTypeLaws.{order_parts, order_typed}
use Rattle.castor_laws.proofs.RelClauseLaws.{meaning-Filter, meaning-Order}
use Rattle.castor_laws.proofs.TypedRelLaws.{equivalent_where, filter_parts, filter_typed}
use Rattle.castor_flat.specs.OrderUnderFilter.{order_under_filter}
use Rattle.castor_flat.proofs.FormLaws.{by_form, filter_is, is_made, order_is, two_parts}

goes_below : (context : Context) (ks : List Key) (p : Expr) (r : Rel) → Typed (Order ks (Filter p r)) context → Equivalent context (Order ks (Filter p r)) (Filter p (Order ks r))
goes_below context ks p r typed =
    equivalent_where context (Order ks (Filter p r)) (Filter p (Order ks r)) typed
    (λ types is.
    let sorted = order_parts context ks (Filter p r) types is in
    let parts = filter_parts context p r types sorted.0 in
    filter_typed context p (Order ks r) types (order_typed context ks r types parts.0 sorted.1) parts.1)
    (λ types is ts env q fits.
    let test = λ (row : Row). expr_value p row env q in
    let before = meaning-Order ts env q ks (Filter p r) ∙ ap (sorted_by ks) (meaning-Filter ts env q p r) in
    let after = meaning-Filter ts env q p (Order ks r) ∙ ap (filtered test) (meaning-Order ts env q ks r) in
    subst (λ out. SameUpToOrder out (meaning (Filter p (Order ks r)) ts env q)) (sym before)
    (subst (λ out. SameUpToOrder (sorted_by ks (filtered test (meaning r ts env q))) out) (sym after) (sorts_under_filter ks test (meaning r ts env q))))

pub order_under_filter_keeps : (context : Context) (q made : Rel) → order_under_filter q ≡ Ok made → Typed q context → Equivalent context q made
order_under_filter_keeps context q made is =
    let (outer, form, more) = two_parts _ _ made is in
    let (inner, below, last) = two_parts _ _ made more in
    by_form context q (Order outer.0 (Filter inner.0 inner.1)) (Filter inner.0 (Order outer.0 inner.1)) made
    (order_is q outer form ∙ ap (Order outer.0) (filter_is outer.1 inner below)) (is_made _ made last) (goes_below context outer.0 inner.0 inner.1)
