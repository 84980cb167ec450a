-- What `filter-join-left` makes is equivalent.
use Rattle.std.proofs.Common.{◌≡◌, ◌∙◌, List, true, ap, Ok}
use Rattle.std.proofs.lemmas.Bool.{and_parts}
use Rattle.castor_val.specs.declared.value.Ty.{Ty}
use Rattle.castor_val.specs.declared.value.Ty.TheVariants.{Bool as Truth}
use Rattle.castor_alg.specs.declared.context.Context.{Context}
use Rattle.castor_alg.specs.declared.expr.Expr.{Expr}
use Rattle.castor_alg.specs.declared.rel.Rel.{Rel, Filter, Join}
use Rattle.castor_alg.specs.ColumnCount.{column_count}
use Rattle.castor_alg.specs.Equivalence.{Equivalent}
use Rattle.castor_alg.specs.Totality.{is_total_expr}
use Rattle.castor_alg.specs.Typing.{Typed, is_of, type_under}
use Rattle.castor_laws.proofs.OperandTypeLaws.{join_again, join_parts}
use Rattle.castor_laws.proofs.TypedRelLaws.{equal_where, filter_parts, filter_typed}
use Rattle.castor_flat.specs.Columns.{has_columns_within}
use Rattle.castor_flat.specs.FilterJoinLeft.{filter_join_left}
use Rattle.castor_flat.proofs.FormLaws.{by_form, filter_is, fits_parts, join_is, three_parts, total_parts, two_parts}
use Rattle.castor_flat.proofs.JoinSideLaws.{goes_to_left, left_type}

goes_left : (context : Context) (p c : Expr) (r s : Rel) → has_columns_within 0 (column_count context.tables r) p ≡ true → is_total_expr p ≡ true → is_total_expr c ≡ true → Typed (Filter p (Join c r s)) context → Equivalent context (Filter p (Join c r s)) (Join c (Filter p r) s)
goes_left context p c r s within total joining typed =
    equal_where context (Filter p (Join c r s)) (Join c (Filter p r) s) typed
    (λ types is.
    let parts = filter_parts context p (Join c r s) types is in
    let join = join_parts context c r s types parts.0 in
    let bool = left_type context p r join.left join.left_typed within join.right (ap (λ (ts : List Ty). is_of Truth (type_under p ts context)) join.both ∙ parts.1) in
    join_again context c c r s (Filter p r) s types join (filter_typed context p r join.left join.left_typed bool) join.right_typed join.condition)
    (λ types is ts env q fits.
    let parts = filter_parts context p (Join c r s) types is in
    let join = join_parts context c r s types parts.0 in
    goes_to_left context p r join.left join.left_typed within c s total joining ts env q fits)

pub filter_join_left_keeps : (context : Context) (q made : Rel) → filter_join_left context.tables q ≡ Ok made → Typed q context → Equivalent context q made
filter_join_left_keeps context q made is =
    let (outer, form, more) = two_parts _ _ made is in
    let (inner, below, rest) = three_parts _ _ made more in
    let (within, last) = fits_parts _ _ made rest in
    let (total, same) = total_parts _ _ made last in
    let each = and_parts (is_total_expr outer.0) (is_total_expr inner.0) total in
    by_form context q (Filter outer.0 (Join inner.0 inner.1 inner.2)) (Join inner.0 (Filter outer.0 inner.1) inner.2) made
    (filter_is q outer form ∙ ap (Filter outer.0) (join_is outer.1 inner below)) same (goes_left context outer.0 inner.0 inner.1 inner.2 within each.0 each.1)
