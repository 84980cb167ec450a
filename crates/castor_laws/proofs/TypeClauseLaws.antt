-- The type of each expression and the column types of each relation, over those of their parts.
use Rattle.std.proofs.Common.{◌≡◌, ◌∙◌, ℕ, List, [], ◌∷◌, map, ap, Option, None, slice_get, option_and_then, option_map, if◌then◌else◌}
use Rattle.std.proofs.lemmas.Simd.{map-map}
use Rattle.castor_val.specs.declared.value.Ty.{Ty}
use Rattle.castor_val.specs.declared.value.Ty.TheVariants.{Bool as Truth}
use Rattle.castor_val.specs.declared.value.Value.{Value}
use Rattle.castor_alg.specs.declared.context.Context.{Context}
use Rattle.castor_alg.specs.declared.expr.Op.{Op}
use Rattle.castor_alg.specs.declared.expr.Expr.{Expr}
use Rattle.castor_alg.specs.declared.expr.Expr as E
use Rattle.castor_alg.specs.declared.rel.Agg.{Agg}
use Rattle.castor_alg.specs.declared.rel.Bound.{Bound}
use Rattle.castor_alg.specs.declared.rel.Key.{Key}
use Rattle.castor_alg.specs.declared.rel.Rel.{Rel}
use Rattle.castor_alg.specs.declared.rel.Rel as R
use Rattle.castor_alg.specs.Typing.{ExprTyping, RelTyping, allowed, are_hash_keys, are_sorting_keys, choice_type, column_types_step, common_types, cross_types, each, expr_type_step, extended, group_types, is_of, is_range, literal_type, negation_type, operator_type, scope_types, type_under, types_of_each, types_under, within_limits}
use Rattle.castor_alg.proofs.ExprInduction.{fold-Col, fold-Scope, fold-Param, fold-Lit, fold-Bin, fold-Not, fold-If}
use Rattle.castor_alg.proofs.RelInduction.{fold-Table, fold-Scalar, fold-Cross, fold-Concat, fold-Select, fold-Filter, fold-Join, fold-DepJoin, fold-Group, fold-Order, fold-Dedup, fold-List, fold-Hash, fold-Ord}

module _ (columns : List Ty) (context : Context) where
  abbrev here : ExprTyping → Option Ty
  here m = m columns context

  pub type_under-Col : (i : ℕ) → type_under (E.Col i) columns context ≡ slice_get columns i
  type_under-Col i = ap here (fold-Col ExprTyping expr_type_step i)

  pub type_under-Scope : (k i : ℕ) → type_under (E.Scope k i) columns context ≡ option_and_then (λ types. slice_get types i) (scope_types context.scopes k)
  type_under-Scope k i = ap here (fold-Scope ExprTyping expr_type_step k i)

  pub type_under-Param : (i : ℕ) → type_under (E.Param i) columns context ≡ slice_get context.params i
  type_under-Param i = ap here (fold-Param ExprTyping expr_type_step i)

  pub type_under-Lit : (v : Value) → type_under (E.Lit v) columns context ≡ literal_type v
  type_under-Lit v = ap here (fold-Lit ExprTyping expr_type_step v)

  pub type_under-Bin : (op : Op) (a b : Expr) → type_under (E.Bin op a b) columns context ≡ operator_type op (type_under a columns context) (type_under b columns context)
  type_under-Bin op a b = ap here (fold-Bin ExprTyping expr_type_step op a b)

  pub type_under-Not : (a : Expr) → type_under (E.Not a) columns context ≡ negation_type (type_under a columns context)
  type_under-Not a = ap here (fold-Not ExprTyping expr_type_step a)

  pub type_under-If : (c a b : Expr) → type_under (E.If c a b) columns context ≡ choice_type (type_under c columns context) (type_under a columns context) (type_under b columns context)
  type_under-If c a b = ap here (fold-If ExprTyping expr_type_step c a b)

module _ (context : Context) where
  abbrev there : RelTyping → Option (List Ty)
  there m = m context

  pub types_under-Table : (n : ℕ) → types_under (R.Table n) context ≡ slice_get context.tables n
  types_under-Table n = ap there (fold-Table RelTyping column_types_step n)

  pub types_under-Scalar : (e : Expr) → types_under (R.Scalar e) context ≡ option_map (λ t. t ∷ []) (type_under e [] context)
  types_under-Scalar e = ap there (fold-Scalar RelTyping column_types_step e)

  pub types_under-Cross : (rs : List Rel) → types_under (R.Cross rs) context ≡ cross_types (map (λ r. types_under r context) rs)
  types_under-Cross rs = ap there (fold-Cross RelTyping column_types_step rs) ∙ ap cross_types (map-map there types_under rs)

  pub types_under-Concat : (rs : List Rel) → types_under (R.Concat rs) context ≡ option_and_then common_types (each (map (λ r. types_under r context) rs))
  types_under-Concat rs = ap there (fold-Concat RelTyping column_types_step rs) ∙ ap (λ os. option_and_then common_types (each os)) (map-map there types_under rs)

  pub types_under-Select : (es : List Expr) (r : Rel) → types_under (R.Select es r) context ≡ option_and_then (λ columns. within_limits (types_of_each es columns context)) (types_under r context)
  types_under-Select es r = ap there (fold-Select RelTyping column_types_step es r)

  pub types_under-Filter : (e : Expr) (r : Rel) → types_under (R.Filter e r) context ≡ option_and_then (λ columns. allowed (is_of Truth (type_under e columns context)) columns) (types_under r context)
  types_under-Filter e r = ap there (fold-Filter RelTyping column_types_step e r)

  pub types_under-Join : (e : Expr) (r s : Rel) → types_under (R.Join e r s) context ≡ option_and_then (λ columns. allowed (is_of Truth (type_under e columns context)) columns) (cross_types (types_under r context ∷ types_under s context ∷ []))
  types_under-Join e r s = ap there (fold-Join RelTyping column_types_step e r s)

  pub types_under-DepJoin : (k : ℕ) (r s : Rel) → types_under (R.DepJoin k r s) context ≡ option_and_then (λ columns. types_under s (extended context k columns)) (types_under r context)
  types_under-DepJoin k r s = ap there (fold-DepJoin RelTyping column_types_step k r s)

  pub types_under-Group : (ks : List ℕ) (aggs : List Agg) (r : Rel) → types_under (R.Group ks aggs r) context ≡ option_and_then (λ columns. group_types ks aggs columns) (types_under r context)
  types_under-Group ks aggs r = ap there (fold-Group RelTyping column_types_step ks aggs r)

  pub types_under-Order : (ks : List Key) (r : Rel) → types_under (R.Order ks r) context ≡ option_and_then (λ columns. allowed (are_sorting_keys ks columns) columns) (types_under r context)
  types_under-Order ks r = ap there (fold-Order RelTyping column_types_step ks r)

  pub types_under-Dedup : (r : Rel) → types_under (R.Dedup r) context ≡ types_under r context
  types_under-Dedup r = ap there (fold-Dedup RelTyping column_types_step r)

  pub types_under-List : (k : ℕ) (r s : Rel) → types_under (R.List k r s) context ≡ option_and_then (λ columns. types_under s (extended context k columns)) (types_under r context)
  types_under-List k r s = ap there (fold-List RelTyping column_types_step k r s)

  pub types_under-Hash : (k : ℕ) (r s : Rel) (es : List Expr) → types_under (R.Hash k r s es) context ≡ option_and_then (λ columns. if are_hash_keys columns (types_of_each es [] context) then types_under s (extended context k columns) else None) (types_under r context)
  types_under-Hash k r s es = ap there (fold-Hash RelTyping column_types_step k r s es)

  pub types_under-Ord : (k : ℕ) (r s : Rel) (lo hi : Bound) → types_under (R.Ord k r s lo hi) context ≡ option_and_then (λ columns. if is_range columns lo hi context then types_under s (extended context k columns) else None) (types_under r context)
  types_under-Ord k r s lo hi = ap there (fold-Ord RelTyping column_types_step k r s lo hi)
