-- What `filter-into-join` makes is equivalent.
use Rattle.std.proofs.Common.{◌≡◌, ◌∙◌, true, sym, ap, Ok}
use Rattle.std.proofs.lemmas.Bool.{and_from}
use Rattle.castor_alg.specs.declared.context.Context.{Context}
use Rattle.castor_alg.specs.declared.expr.Expr.{Expr, Bin}
use Rattle.castor_alg.specs.declared.expr.Op.TheVariants.{And}
use Rattle.castor_alg.specs.declared.rel.Rel.{Rel, Filter, Join}
use Rattle.castor_alg.specs.Equivalence.{Equivalent}
use Rattle.castor_alg.specs.Totality.{is_total_expr}
use Rattle.castor_alg.specs.Typing.{Typed}
use Rattle.castor_laws.proofs.OperandTypeLaws.{join_again, join_parts}
use Rattle.castor_laws.proofs.TypedRelLaws.{equal_where, filter_parts}
use Rattle.castor_flat.specs.FilterIntoJoin.{filter_into_join}
use Rattle.castor_flat.proofs.ConjunctionLaws.{conjunction_type, joined_by_both}
use Rattle.castor_flat.proofs.FormLaws.{by_form, filter_is, join_is, three_parts, total_parts, two_parts}

goes_in : (context : Context) (p c : Expr) (r s : Rel) → is_total_expr p ≡ true → Typed (Filter p (Join c r s)) context → Equivalent context (Filter p (Join c r s)) (Join (Bin And c p) r s)
goes_in context p c r s total typed =
    equal_where context (Filter p (Join c r s)) (Join (Bin And c p) r s) typed
    (λ types is.
    let parts = filter_parts context p (Join c r s) types is in
    let join = join_parts context c r s types parts.0 in
    join_again context c (Bin And c p) r s r s types join join.left_typed join.right_typed (conjunction_type c p types context ∙ and_from _ _ join.condition parts.1))
    (λ types is ts env q fits. sym (joined_by_both ts env q c p r s total))

pub filter_into_join_keeps : (context : Context) (q made : Rel) → filter_into_join q ≡ Ok made → Typed q context → Equivalent context q made
filter_into_join_keeps context q made is =
    let (outer, form, more) = two_parts _ _ made is in
    let (inner, below, last) = three_parts _ _ made more in
    let (total, same) = total_parts _ _ made last in
    by_form context q (Filter outer.0 (Join inner.0 inner.1 inner.2)) (Join (Bin And inner.0 outer.0) inner.1 inner.2) made
    (filter_is q outer form ∙ ap (Filter outer.0) (join_is outer.1 inner below)) same (goes_in context outer.0 inner.0 inner.1 inner.2 total)
