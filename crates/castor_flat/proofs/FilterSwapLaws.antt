-- What `filter-swap` makes is equivalent.
use Rattle.std.proofs.Common.{◌≡◌, ◌∙◌, true, sym, ap, Ok}
use Rattle.std.proofs.lemmas.Bool.{and_parts}
use Rattle.castor_alg.specs.declared.context.Context.{Context}
use Rattle.castor_alg.specs.declared.expr.Expr.{Expr}
use Rattle.castor_alg.specs.declared.rel.Rel.{Rel, Filter}
use Rattle.castor_alg.specs.Equivalence.{Equivalent}
use Rattle.castor_alg.specs.Expression.{expr_value}
use Rattle.castor_alg.specs.Meaning.{meaning}
use Rattle.castor_alg.specs.Totality.{is_total_expr}
use Rattle.castor_alg.specs.Typing.{Typed}
use Rattle.castor_laws.proofs.ExchangeLaws.{filters_exchange}
use Rattle.castor_laws.proofs.TotalExprLaws.{total_gives_value}
use Rattle.castor_laws.proofs.TypedRelLaws.{equal_where, filter_parts, filter_typed}
use Rattle.castor_flat.specs.FilterSwap.{filter_swap}
use Rattle.castor_flat.proofs.ConjunctionLaws.{filters_mean}
use Rattle.castor_flat.proofs.FormLaws.{by_form, filter_is, total_parts, two_parts}

swaps : (context : Context) (a b : Expr) (r : Rel) → is_total_expr a ≡ true → is_total_expr b ≡ true → Typed (Filter a (Filter b r)) context → Equivalent context (Filter a (Filter b r)) (Filter b (Filter a r))
swaps context a b r first second typed =
    equal_where context (Filter a (Filter b r)) (Filter b (Filter a r)) typed
    (λ types is.
    let outer = filter_parts context a (Filter b r) types is in
    let inner = filter_parts context b r types outer.0 in
    filter_typed context b (Filter a r) types (filter_typed context a r types inner.0 outer.1) inner.1)
    (λ types is ts env p fits.
    filters_mean ts env p a b r
    ∙ filters_exchange (λ row. expr_value a row env p) (λ row. expr_value b row env p) (meaning r ts env p) (λ row. total_gives_value a first row env p) (λ row. total_gives_value b second row env p)
    ∙ sym (filters_mean ts env p b a r))

pub filter_swap_keeps : (context : Context) (q r : Rel) → filter_swap q ≡ Ok r → Typed q context → Equivalent context q r
filter_swap_keeps context q r made =
    let (outer, is, more) = two_parts _ _ r made in
    let (inner, below, last) = two_parts _ _ r more in
    let (total, same) = total_parts _ _ r last in
    let each = and_parts (is_total_expr outer.0) (is_total_expr inner.0) total in
    by_form context q (Filter outer.0 (Filter inner.0 inner.1)) (Filter inner.0 (Filter outer.0 inner.1)) r
    (filter_is q outer is ∙ ap (Filter outer.0) (filter_is outer.1 inner below)) same (swaps context outer.0 inner.0 inner.1 each.0 each.1)
