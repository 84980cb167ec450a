-- What `select-merge` makes is equivalent.
use Rattle.std.proofs.Common.{◌≡◌, ◌∙◌, List, map, true, ap, Ok}
use Rattle.std.specs.List.{list_all}
use Rattle.castor_alg.specs.declared.context.Context.{Context}
use Rattle.castor_alg.specs.declared.expr.Expr.{Expr}
use Rattle.castor_alg.specs.declared.rel.Rel.{Rel, Select}
use Rattle.castor_alg.specs.Equivalence.{Equivalent}
use Rattle.castor_alg.specs.Substitution.{subst_cols}
use Rattle.castor_alg.specs.Totality.{is_total_expr}
use Rattle.castor_alg.specs.Typing.{Typed}
use Rattle.castor_laws.proofs.ColumnSubstitutionTypeLaws.{columns_of_each_have_types}
use Rattle.castor_laws.proofs.OperandTypeLaws.{select_parts, select_typed}
use Rattle.castor_laws.proofs.TypedRelLaws.{equal_where}
use Rattle.castor_flat.specs.SelectMerge.{select_merge}
use Rattle.castor_flat.proofs.FormLaws.{by_form, select_is, total_parts, two_parts}
use Rattle.castor_flat.proofs.ProjectionLaws.{projections_merge}

merges : (context : Context) (es fs : List Expr) (r : Rel) → list_all is_total_expr fs ≡ true → Typed (Select es (Select fs r)) context → Equivalent context (Select es (Select fs r)) (Select (map (subst_cols fs) es) r)
merges context es fs r total typed =
    equal_where context (Select es (Select fs r)) (Select (map (subst_cols fs) es) r) typed
    (λ types is.
    let outer = select_parts context es (Select fs r) types is in
    let inner = select_parts context fs r outer.0 outer.1 in
    select_typed context (map (subst_cols fs) es) r inner.0 types inner.1
    (columns_of_each_have_types fs es inner.0 outer.0 context inner.2 types outer.2) outer.3)
    (λ types is ts env p fits. projections_merge ts env p fs total es r)

pub select_merge_keeps : (context : Context) (q made : Rel) → select_merge q ≡ Ok made → Typed q context → Equivalent context q made
select_merge_keeps context q made is =
    let (outer, form, more) = two_parts _ _ made is in
    let (inner, below, last) = two_parts _ _ made more in
    let (total, same) = total_parts _ _ made last in
    by_form context q (Select outer.0 (Select inner.0 inner.1)) (Select (map (subst_cols inner.0) outer.0) inner.1) made
    (select_is q outer form ∙ ap (Select outer.0) (select_is outer.1 inner below)) same (merges context outer.0 inner.0 inner.1 total)
