-- What `filter-under-select` makes is equivalent.
use Rattle.std.proofs.Common.{◌≡◌, ◌∙◌, List, true, ap, Ok}
use Rattle.std.specs.List.{list_all}
use Rattle.castor_alg.specs.declared.context.Context.{Context}
use Rattle.castor_alg.specs.declared.expr.Expr.{Expr}
use Rattle.castor_alg.specs.declared.rel.Rel.{Rel, Filter, Select}
use Rattle.castor_alg.specs.Equivalence.{Equivalent}
use Rattle.castor_alg.specs.Substitution.{subst_cols}
use Rattle.castor_alg.specs.Totality.{is_total_expr}
use Rattle.castor_alg.specs.Typing.{Typed}
use Rattle.castor_laws.proofs.OperandTypeLaws.{select_parts, select_typed}
use Rattle.castor_laws.proofs.TypedRelLaws.{equal_where, filter_parts, filter_typed}
use Rattle.castor_flat.specs.FilterUnderSelect.{filter_under_select}
use Rattle.castor_flat.proofs.ConjunctionLaws.{replaced_is_bool}
use Rattle.castor_flat.proofs.FormLaws.{by_form, filter_is, select_is, total_parts, two_parts}
use Rattle.castor_flat.proofs.ProjectionLaws.{filter_goes_under}

goes_under : (context : Context) (p : Expr) (es : List Expr) (r : Rel) → list_all is_total_expr es ≡ true → Typed (Filter p (Select es r)) context → Equivalent context (Filter p (Select es r)) (Select es (Filter (subst_cols es p) r))
goes_under context p es r total typed =
    equal_where context (Filter p (Select es r)) (Select es (Filter (subst_cols es p) r)) typed
    (λ types is.
    let outer = filter_parts context p (Select es r) types is in
    let inner = select_parts context es r types outer.0 in
    let filter = filter_typed context (subst_cols es p) r inner.0 inner.1 (replaced_is_bool context es p inner.0 types inner.2 outer.1) in
    select_typed context es (Filter (subst_cols es p) r) inner.0 types filter inner.2 inner.3)
    (λ types is ts env q fits. filter_goes_under ts env q es total p r)

pub filter_under_select_keeps : (context : Context) (q made : Rel) → filter_under_select q ≡ Ok made → Typed q context → Equivalent context q made
filter_under_select_keeps context q made is =
    let (outer, form, more) = two_parts _ _ made is in
    let (inner, below, last) = two_parts _ _ made more in
    let (total, same) = total_parts _ _ made last in
    by_form context q (Filter outer.0 (Select inner.0 inner.1)) (Select inner.0 (Filter (subst_cols inner.0 outer.0) inner.1)) made
    (filter_is q outer form ∙ ap (Filter outer.0) (select_is outer.1 inner below)) same (goes_under context outer.0 inner.0 inner.1 total)
