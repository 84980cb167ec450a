-- What `filter-merge` makes is equivalent.
use Rattle.std.proofs.Common.{◌≡◌, ◌∙◌, true, sym, ap, Ok}
use Rattle.std.proofs.lemmas.Bool.{and_from}
use Rattle.castor_alg.specs.declared.context.Context.{Context}
use Rattle.castor_alg.specs.declared.expr.Expr.{Expr, Bin}
use Rattle.castor_alg.specs.declared.expr.Op.TheVariants.{And}
use Rattle.castor_alg.specs.declared.rel.Rel.{Rel, Filter}
use Rattle.castor_alg.specs.Equivalence.{Equivalent}
use Rattle.castor_alg.specs.Totality.{is_total_expr}
use Rattle.castor_alg.specs.Typing.{Typed}
use Rattle.castor_laws.proofs.TypedRelLaws.{equal_where, filter_parts, filter_typed}
use Rattle.castor_flat.specs.FilterMerge.{filter_merge}
use Rattle.castor_flat.proofs.ConjunctionLaws.{conjunction_means, conjunction_type}
use Rattle.castor_flat.proofs.FormLaws.{by_form, filter_is, total_parts, two_parts}

merges : (context : Context) (a b : Expr) (r : Rel) → is_total_expr a ≡ true → Typed (Filter a (Filter b r)) context → Equivalent context (Filter a (Filter b r)) (Filter (Bin And a b) r)
merges context a b r total typed =
    equal_where context (Filter a (Filter b r)) (Filter (Bin And a b) r) typed
    (λ types is.
    let outer = filter_parts context a (Filter b r) types is in
    let inner = filter_parts context b r types outer.0 in
    filter_typed context (Bin And a b) r types inner.0 (conjunction_type a b types context ∙ and_from _ _ outer.1 inner.1))
    (λ types is ts env p fits. sym (conjunction_means ts env p a b r total))

pub filter_merge_keeps : (context : Context) (q r : Rel) → filter_merge q ≡ Ok r → Typed q context → Equivalent context q r
filter_merge_keeps context q r made =
    let (outer, is, more) = two_parts _ _ r made in
    let (inner, below, last) = two_parts _ _ r more in
    let (total, same) = total_parts _ _ r last in
    by_form context q (Filter outer.0 (Filter inner.0 inner.1)) (Filter (Bin And outer.0 inner.0) inner.1) r
    (filter_is q outer is ∙ ap (Filter outer.0) (filter_is outer.1 inner below)) same (merges context outer.0 inner.0 inner.1 total)
