-- What `filter-concat` makes is equivalent.
use Rattle.std.proofs.Common.{◌≡◌, ◌∙◌, List, map, ap, Ok}
use Rattle.castor_alg.specs.declared.context.Context.{Context}
use Rattle.castor_alg.specs.declared.expr.Expr.{Expr}
use Rattle.castor_alg.specs.declared.rel.Rel.{Rel, Concat, Filter}
use Rattle.castor_alg.specs.Equivalence.{Equivalent}
use Rattle.castor_alg.specs.Expression.{expr_value}
use Rattle.castor_alg.specs.Rows.{filtered}
use Rattle.castor_alg.specs.Typing.{Typed}
use Rattle.castor_laws.proofs.MoveLaws.{filter_moves_into}
use Rattle.castor_laws.proofs.OperandTypeLaws.{concat_over}
use Rattle.castor_laws.proofs.RelClauseLaws.{meaning-Filter}
use Rattle.castor_laws.proofs.TypedRelLaws.{equal_where, filter_parts, filter_typed}
use Rattle.castor_flat.specs.FilterConcat.{filter_concat}
use Rattle.castor_flat.proofs.ConcatLaws.{goes_into_each}
use Rattle.castor_flat.proofs.FormLaws.{by_form, concat_is, filter_is, is_made, one_part, two_parts}

goes_in : (context : Context) (p : Expr) (rs : List Rel) → Typed (Filter p (Concat rs)) context → Equivalent context (Filter p (Concat rs)) (Concat (map (Filter p) rs))
goes_in context p rs typed =
    equal_where context (Filter p (Concat rs)) (Concat (map (Filter p) rs)) typed
    (λ types is.
    let parts = filter_parts context p (Concat rs) types is in
    concat_over context (Filter p) types types (λ r fit. filter_typed context p r types fit parts.1) rs parts.0)
    (λ types is ts env q fits. goes_into_each ts env q (Filter p) (filtered (λ row. expr_value p row env q)) (meaning-Filter ts env q p) (filter_moves_into (λ row. expr_value p row env q)) rs)

pub filter_concat_keeps : (context : Context) (q made : Rel) → filter_concat q ≡ Ok made → Typed q context → Equivalent context q made
filter_concat_keeps context q made is =
    let (outer, form, more) = two_parts _ _ made is in
    let (operands, below, last) = one_part _ _ made more in
    by_form context q (Filter outer.0 (Concat operands)) (Concat (map (Filter outer.0) operands)) made
    (filter_is q outer form ∙ ap (Filter outer.0) (concat_is outer.1 operands below)) (is_made _ made last) (goes_in context outer.0 operands)
