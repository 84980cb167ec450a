-- What `filter-out-of-join` makes is equivalent.
use Rattle.std.proofs.Common.{◌≡◌, ◌∙◌, true, sym, ap, Ok}
use Rattle.std.proofs.lemmas.Bool.{and_parts}
use Rattle.castor_alg.specs.declared.context.Context.{Context}
use Rattle.castor_alg.specs.declared.expr.Expr.{Expr, Bin}
use Rattle.castor_alg.specs.declared.expr.Op.TheVariants.{And}
use Rattle.castor_alg.specs.declared.rel.Rel.{Rel, Filter, Join}
use Rattle.castor_alg.specs.Equivalence.{Equivalent}
use Rattle.castor_alg.specs.Totality.{is_total_expr}
use Rattle.castor_alg.specs.Typing.{Typed}
use Rattle.castor_laws.proofs.OperandTypeLaws.{join_again, join_parts}
use Rattle.castor_laws.proofs.TypedRelLaws.{equal_where, filter_typed}
use Rattle.castor_flat.specs.FilterOutOfJoin.{filter_out_of_join}
use Rattle.castor_flat.proofs.ConjunctionLaws.{conjunction_type, joined_by_both}
use Rattle.castor_flat.proofs.FormLaws.{by_form, join_is, sides_are, three_parts, total_parts, two_parts}

goes_out : (context : Context) (c p : Expr) (r s : Rel) → is_total_expr p ≡ true → Typed (Join (Bin And c p) r s) context → Equivalent context (Join (Bin And c p) r s) (Filter p (Join c r s))
goes_out context c p r s total typed =
    equal_where context (Join (Bin And c p) r s) (Filter p (Join c r s)) typed
    (λ types is.
    let join = join_parts context (Bin And c p) r s types is in
    let bools = and_parts _ _ (sym (conjunction_type c p types context) ∙ join.condition) in
    filter_typed context p (Join c r s) types (join_again context (Bin And c p) c r s r s types join join.left_typed join.right_typed bools.0) bools.1)
    (λ types is ts env q fits. joined_by_both ts env q c p r s total)

pub filter_out_of_join_keeps : (context : Context) (q made : Rel) → filter_out_of_join q ≡ Ok made → Typed q context → Equivalent context q made
filter_out_of_join_keeps context q made is =
    let (whole, form, more) = three_parts _ _ made is in
    let (sides, both, last) = two_parts _ _ made more in
    let (total, same) = total_parts _ _ made last in
    by_form context q (Join (Bin And sides.0 sides.1) whole.1 whole.2) (Filter sides.1 (Join sides.0 whole.1 whole.2)) made
    (join_is q whole form ∙ ap (λ e. Join e whole.1 whole.2) (sides_are whole.0 sides both)) same (goes_out context sides.0 sides.1 whole.1 whole.2 total)
