-- What `select-concat` makes is equivalent.
use Rattle.std.proofs.Common.{◌≡◌, ◌∙◌, List, map, ap, Ok}
use Rattle.castor_alg.specs.declared.context.Context.{Context}
use Rattle.castor_alg.specs.declared.expr.Expr.{Expr}
use Rattle.castor_alg.specs.declared.rel.Rel.{Rel, Concat, Select}
use Rattle.castor_alg.specs.Equivalence.{Equivalent}
use Rattle.castor_alg.specs.Expression.{expr_values}
use Rattle.castor_alg.specs.Rows.{selected}
use Rattle.castor_alg.specs.Typing.{Typed}
use Rattle.castor_laws.proofs.MoveLaws.{select_moves_into}
use Rattle.castor_laws.proofs.OperandTypeLaws.{concat_over, select_parts, select_typed}
use Rattle.castor_laws.proofs.RelClauseLaws.{meaning-Select}
use Rattle.castor_laws.proofs.TypedRelLaws.{equal_where}
use Rattle.castor_flat.specs.SelectConcat.{select_concat}
use Rattle.castor_flat.proofs.ConcatLaws.{goes_into_each}
use Rattle.castor_flat.proofs.FormLaws.{by_form, concat_is, is_made, one_part, select_is, two_parts}

goes_in : (context : Context) (es : List Expr) (rs : List Rel) → Typed (Select es (Concat rs)) context → Equivalent context (Select es (Concat rs)) (Concat (map (Select es) rs))
goes_in context es rs typed =
    equal_where context (Select es (Concat rs)) (Concat (map (Select es) rs)) typed
    (λ types is.
    let parts = select_parts context es (Concat rs) types is in
    concat_over context (Select es) parts.0 types (λ r fit. select_typed context es r parts.0 types fit parts.2 parts.3) rs parts.1)
    (λ types is ts env q fits. goes_into_each ts env q (Select es) (selected (λ row. expr_values es row env q)) (meaning-Select ts env q es) (select_moves_into (λ row. expr_values es row env q)) rs)

pub select_concat_keeps : (context : Context) (q made : Rel) → select_concat q ≡ Ok made → Typed q context → Equivalent context q made
select_concat_keeps context q made is =
    let (outer, form, more) = two_parts _ _ made is in
    let (operands, below, last) = one_part _ _ made more in
    by_form context q (Select outer.0 (Concat operands)) (Concat (map (Select outer.0) operands)) made
    (select_is q outer form ∙ ap (Select outer.0) (concat_is outer.1 operands below)) (is_made _ made last) (goes_in context outer.0 operands)
