-- What `filter-dedup` makes is equivalent.
use Rattle.std.proofs.Common.{◌≡◌, ◌∙◌, sym, ap, Ok}
use Rattle.castor_val.specs.declared.row.Row.{Row}
use Rattle.castor_alg.specs.declared.context.Context.{Context}
use Rattle.castor_alg.specs.declared.expr.Expr.{Expr}
use Rattle.castor_alg.specs.declared.rel.Rel.{Rel, Dedup, Filter}
use Rattle.castor_alg.specs.Distinct.{deduped}
use Rattle.castor_alg.specs.Equivalence.{Equivalent}
use Rattle.castor_alg.specs.Expression.{expr_value}
use Rattle.castor_alg.specs.Meaning.{meaning}
use Rattle.castor_alg.specs.Rows.{filtered}
use Rattle.castor_alg.specs.Typing.{Typed}
use Rattle.castor_laws.proofs.FilterLaws.{filtered-deduped}
use Rattle.castor_laws.proofs.RelClauseLaws.{meaning-Dedup, meaning-Filter}
use Rattle.castor_laws.proofs.TypeClauseLaws.{types_under-Dedup}
use Rattle.castor_laws.proofs.TypedRelLaws.{equal_where, filter_parts, filter_typed}
use Rattle.castor_flat.specs.FilterDedup.{filter_dedup}
use Rattle.castor_flat.proofs.FormLaws.{by_form, dedup_is, filter_is, is_made, one_part, two_parts}

goes_below : (context : Context) (p : Expr) (r : Rel) → Typed (Filter p (Dedup r)) context → Equivalent context (Filter p (Dedup r)) (Dedup (Filter p r))
goes_below context p r typed =
    equal_where context (Filter p (Dedup r)) (Dedup (Filter p r)) typed
    (λ types is.
    let parts = filter_parts context p (Dedup r) types is in
    types_under-Dedup context (Filter p r) ∙ filter_typed context p r types (sym (types_under-Dedup context r) ∙ parts.0) parts.1)
    (λ types is ts env q fits.
    let test = λ (row : Row). expr_value p row env q in
    meaning-Filter ts env q p (Dedup r)
    ∙ ap (filtered test) (meaning-Dedup ts env q r)
    ∙ filtered-deduped test (meaning r ts env q)
    ∙ sym (meaning-Dedup ts env q (Filter p r) ∙ ap deduped (meaning-Filter ts env q p r)))

pub filter_dedup_keeps : (context : Context) (q made : Rel) → filter_dedup q ≡ Ok made → Typed q context → Equivalent context q made
filter_dedup_keeps context q made is =
    let (outer, form, more) = two_parts _ _ made is in
    let (operand, below, last) = one_part _ _ made more in
    by_form context q (Filter outer.0 (Dedup operand)) (Dedup (Filter outer.0 operand)) made
    (filter_is q outer form ∙ ap (Filter outer.0) (dedup_is outer.1 operand below)) (is_made _ made last) (goes_below context outer.0 operand)
