-- What `filter-split` makes is equivalent.
use Rattle.std.proofs.Common.{◌≡◌, ◌∙◌, true, sym, ap, Ok}
use Rattle.std.proofs.lemmas.Bool.{and_parts}
use Rattle.castor_alg.specs.declared.context.Context.{Context}
use Rattle.castor_alg.specs.declared.expr.Expr.{Expr, Bin}
use Rattle.castor_alg.specs.declared.expr.Op.TheVariants.{And}
use Rattle.castor_alg.specs.declared.rel.Rel.{Rel, Filter}
use Rattle.castor_alg.specs.Equivalence.{Equivalent}
use Rattle.castor_alg.specs.Totality.{is_total_expr}
use Rattle.castor_alg.specs.Typing.{Typed}
use Rattle.castor_laws.proofs.TypedRelLaws.{equal_where, filter_parts, filter_typed}
use Rattle.castor_flat.specs.FilterSplit.{filter_split}
use Rattle.castor_flat.proofs.ConjunctionLaws.{conjunction_means, conjunction_type}
use Rattle.castor_flat.proofs.FormLaws.{by_form, filter_is, sides_are, total_parts, two_parts}

splits : (context : Context) (a b : Expr) (r : Rel) → is_total_expr a ≡ true → Typed (Filter (Bin And a b) r) context → Equivalent context (Filter (Bin And a b) r) (Filter a (Filter b r))
splits context a b r total typed =
    equal_where context (Filter (Bin And a b) r) (Filter a (Filter b r)) typed
    (λ types is.
    let parts = filter_parts context (Bin And a b) r types is in
    let bools = and_parts _ _ (sym (conjunction_type a b types context) ∙ parts.1) in
    filter_typed context a (Filter b r) types (filter_typed context b r types parts.0 bools.1) bools.0)
    (λ types is ts env p fits. conjunction_means ts env p a b r total)

pub filter_split_keeps : (context : Context) (q r : Rel) → filter_split q ≡ Ok r → Typed q context → Equivalent context q r
filter_split_keeps context q r made =
    let (whole, is, more) = two_parts _ _ r made in
    let (sides, both, last) = two_parts _ _ r more in
    let (total, same) = total_parts _ _ r last in
    by_form context q (Filter (Bin And sides.0 sides.1) whole.1) (Filter sides.0 (Filter sides.1 whole.1)) r
    (filter_is q whole is ∙ ap (λ e. Filter e whole.1) (sides_are whole.0 sides both)) same (splits context sides.0 sides.1 whole.1 total)
