-- What `split` makes is equivalent.
use Rattle.std.proofs.Common.{◌≡◌, ◌∙◌, List, [], ◌∷◌, Bool, true, false, refl, sym, ap, subst, Option, Some, None, Ok, Err, if◌then◌else◌}
use Rattle.std.specs.Option.{ok_or}
use Rattle.std.proofs.lemmas.Bool.{and_parts}
use Rattle.castor_val.specs.declared.row.Row.{Row}
use Rattle.castor_val.specs.declared.table.Table.{Table}
use Rattle.castor_val.specs.declared.value.Ty.{Ty}
use Rattle.castor_val.specs.declared.value.Ty.TheVariants.{Bool as Truth}
use Rattle.castor_alg.specs.declared.context.Context.{Context}
use Rattle.castor_alg.specs.declared.expr.Expr.{Expr, Not}
use Rattle.castor_alg.specs.declared.rel.Rel.{Rel, Concat, Filter}
use Rattle.castor_alg.specs.declared.rule_error.RuleError.TheVariants.{BadArgument}
use Rattle.castor_alg.specs.declared.typing.TypeError.TheVariants.{Ill}
use Rattle.castor_alg.specs.Equivalence.{Equivalent}
use Rattle.castor_alg.specs.Expression.{expr_value, negation}
use Rattle.castor_alg.specs.Meaning.{meaning}
use Rattle.castor_alg.specs.Permutation.{SameUpToOrder}
use Rattle.castor_alg.specs.Rows.{concatenated, filtered, is_true}
use Rattle.castor_alg.specs.Scopes.{Scopes}
use Rattle.castor_alg.specs.Totality.{is_total_expr}
use Rattle.castor_alg.specs.Typing.{Typed, column_types, expr_type_of, is_context, is_of, type_under, types_under}
use Rattle.castor_laws.proofs.ConditionLaws.{condition_decides_on}
use Rattle.castor_laws.proofs.EachLaws.{none, one}
use Rattle.castor_laws.proofs.ExchangeLaws.{splits_by_test}
use Rattle.castor_laws.proofs.ExprClauseLaws.{expr_value-Not}
use Rattle.castor_laws.proofs.OperandTypeLaws.{concat_typed}
use Rattle.castor_laws.proofs.RelClauseLaws.{meaning-Concat, meaning-Filter}
use Rattle.castor_laws.proofs.TypeClauseLaws.{type_under-Not}
use Rattle.castor_laws.proofs.TypedRelLaws.{equivalent_where, filter_typed}
use Rattle.castor_flat.specs.Forms.{Rewriting}
use Rattle.castor_flat.specs.Split.{is_bool_over, is_condition, is_of_row_alone, split}
use Rattle.castor_flat.proofs.ConjunctionLaws.{bool_where}
use Rattle.castor_flat.proofs.FormLaws.{total_parts}

-- a condition over the columns of a relation is a bool over their types
bool_at : (context : Context) (p : Expr) (within : Bool) (o : Option (List Ty)) (types : List Ty) → is_context context ≡ within → o ≡ Some types → is_bool_over context p (if within then o else None) ≡ true → is_of Truth (type_under p types context) ≡ true
bool_at context p true None types known is bool = cc
bool_at context p true (Some columns) types known is bool =
    let same : columns ≡ types = cc in
    ap (λ (ts : List Ty). is_of Truth (type_under p ts context)) (sym same)
    ∙ ap (λ (b : Bool). is_of Truth (if b then type_under p columns context else None)) (sym known)
    ∙ bool
bool_at context p false o types known is bool = cc

condition_type : (context : Context) (p : Expr) (q : Rel) (types : List Ty) → types_under q context ≡ Some types → is_condition context p q ≡ true → is_of Truth (type_under p types context) ≡ true
unfolding is_condition
condition_type context p q types is condition = bool_at context p (is_context context) (types_under q context) types refl is condition

found_at : (context : Context) (p : Expr) (o : Option (List Ty)) (columns : List Ty) (found : Bool) → ok_or o Ill ≡ Ok columns → found ≡ is_of Truth (expr_type_of p columns context) → found ≡ is_bool_over context p o
found_at context p None columns found is test = cc
found_at context p (Some types) columns found is test = let same : types ≡ columns = cc in test ∙ ap (λ (ts : List Ty). is_of Truth (expr_type_of p ts context)) (sym same)

none_at : (context : Context) (p : Expr) (o : Option (List Ty)) → ok_or o Ill ≡ Err Ill → false ≡ is_bool_over context p o
none_at context p None is = refl
none_at context p (Some types) is = cc

-- what a call has found of the columns of a relation
pub found_condition : (context : Context) (p : Expr) (q : Rel) (columns : List Ty) (found : Bool) → ok_or (column_types q context) Ill ≡ Ok columns → found ≡ is_of Truth (expr_type_of p columns context) → found ≡ is_condition context p q
unfolding is_condition
found_condition context p q columns found is test = found_at context p (column_types q context) columns found is test

pub found_none : (context : Context) (p : Expr) (q : Rel) → ok_or (column_types q context) Ill ≡ Err Ill → false ≡ is_condition context p q
unfolding is_condition
found_none context p q is = none_at context p (column_types q context) is

module _ (context : Context) (p : Expr) (q : Rel) where
  abbrev halves : Rel
  halves = Concat (Filter p q ∷ Filter (Not p) q ∷ [])

  halves_mean : (ts : List Table) (env : Scopes) (params : Row) → meaning halves ts env params ≡ concatenated (filtered (λ row. expr_value p row env params) (meaning q ts env params) ∷ filtered (λ row. negation (expr_value p row env params)) (meaning q ts env params) ∷ [])
  halves_mean ts env params =
      let others = meaning-Filter ts env params (Not p) q ∙ (λ i. filtered (λ row. expr_value-Not row env params p i) (meaning q ts env params)) in
      meaning-Concat ts env params (Filter p q ∷ Filter (Not p) q ∷ []) ∙ (λ i. concatenated (meaning-Filter ts env params p q i ∷ others i ∷ []))

  splits : is_total_expr p ≡ true → is_condition context p q ≡ true → Typed q context → Equivalent context q halves
  splits total condition typed =
      equivalent_where context q halves typed
      (λ types is.
      let bool = condition_type context p q types is condition in
      let negated = ap (is_of Truth) (type_under-Not types context p) ∙ bool_where (is_of Truth (type_under p types context)) ∙ bool in
      concat_typed context (Filter p q) (Filter (Not p) q ∷ []) types (one (filter_typed context p q types is bool) (one (filter_typed context (Not p) q types is negated) none)))
      (λ types is ts env params fits.
      let bool = condition_type context p q types is condition in
      let test = λ (row : Row). expr_value p row env params in
      subst (λ out. SameUpToOrder (meaning q ts env params) out) (sym (halves_mean ts env params))
      (splits_by_test test (λ row. is_true (test row)) (meaning q ts env params) (condition_decides_on p q context types total is bool ts env params fits)))

-- what is made where the argument serves
served : (serves : Bool) (made : Rewriting) (r : Rel) → (if serves then made else Err BadArgument) ≡ Ok r → (serves ≡ true) × (made ≡ Ok r)
served true made r is = (refl, is)
served false made r is = cc

pub split_keeps : (context : Context) (p : Expr) (q made : Rel) → split context p q ≡ Ok made → Typed q context → Equivalent context q made
split_keeps context p q made is typed =
    let (serves, more) = served _ _ made is in
    let (total, same) = total_parts _ _ made more in
    subst (Equivalent context q) same (splits context p q total (and_parts (is_of_row_alone p) (is_condition context p q) serves).1 typed)
