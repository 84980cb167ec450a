-- Filters and joins by a conjunction, and filters over filters and joins.
use Rattle.std.proofs.Common.{◌≡◌, ◌∙◌, List, [], ◌∷◌, Bool, true, false, ◌&&◌, refl, sym, ap, Some}
use Rattle.castor_val.specs.declared.row.Row.{Row}
use Rattle.castor_val.specs.declared.table.Table.{Table}
use Rattle.castor_val.specs.declared.value.Ty.{Ty}
use Rattle.castor_val.specs.declared.value.Ty.TheVariants.{Bool as Truth}
use Rattle.castor_alg.specs.declared.context.Context.{Context}
use Rattle.castor_alg.specs.declared.expr.Expr.{Expr, Bin}
use Rattle.castor_alg.specs.declared.expr.Op.TheVariants.{And}
use Rattle.castor_alg.specs.declared.rel.Rel.{Rel, Filter, Join}
use Rattle.castor_alg.specs.Expression.{expr_value}
use Rattle.castor_alg.specs.Meaning.{meaning}
use Rattle.castor_alg.specs.Rows.{crossed, filtered}
use Rattle.castor_alg.specs.Scopes.{Scopes}
use Rattle.castor_alg.specs.Substitution.{subst_cols}
use Rattle.castor_alg.specs.Totality.{is_total_expr}
use Rattle.castor_alg.specs.Typing.{allowed, is_of, type_under, types_of_each}
use Rattle.castor_laws.proofs.ColumnSubstitutionTypeLaws.{columns_have_types}
use Rattle.castor_laws.proofs.ExprClauseLaws.{expr_value-Bin}
use Rattle.castor_laws.proofs.FilterLaws.{conjunction_commutes, filtered_by_both}
use Rattle.castor_laws.proofs.RelClauseLaws.{meaning-Filter, meaning-Join}
use Rattle.castor_laws.proofs.TotalExprLaws.{total_gives_value}
use Rattle.castor_laws.proofs.TypeClauseLaws.{type_under-Bin}
use Rattle.castor_laws.proofs.TypePartLaws.{is_of-equal}

pub bool_where : (c : Bool) → is_of Truth (allowed c Truth) ≡ c
bool_where true = refl
bool_where false = refl

-- a conjunction is a bool where both its sides are
pub conjunction_type : (a b : Expr) (columns : List Ty) (context : Context) → is_of Truth (type_under (Bin And a b) columns context) ≡ (is_of Truth (type_under a columns context) && is_of Truth (type_under b columns context))
conjunction_type a b columns context =
    ap (is_of Truth) (type_under-Bin columns context And a b) ∙ bool_where (is_of Truth (type_under a columns context) && is_of Truth (type_under b columns context))

-- a condition stays one where its columns are replaced by expressions of their types
pub replaced_is_bool : (context : Context) (by : List Expr) (e : Expr) (inner columns : List Ty) → types_of_each by inner context ≡ Some columns → is_of Truth (type_under e columns context) ≡ true → is_of Truth (type_under (subst_cols by e) inner context) ≡ true
replaced_is_bool context by e inner columns typed bool =
    ap (is_of Truth) (columns_have_types by e inner columns context typed Truth (is_of-equal Truth (type_under e columns context) bool))

module _ (ts : List Table) (env : Scopes) (p : Row) where
  pub filters_mean : (a b : Expr) (r : Rel) → meaning (Filter a (Filter b r)) ts env p ≡ filtered (λ row. expr_value a row env p) (filtered (λ row. expr_value b row env p) (meaning r ts env p))
  filters_mean a b r = meaning-Filter ts env p a (Filter b r) ∙ ap (filtered (λ row. expr_value a row env p)) (meaning-Filter ts env p b r)

  -- a filter by a conjunction is a filter by its first side, where that is total, over one by its second
  pub conjunction_means : (a b : Expr) (r : Rel) → is_total_expr a ≡ true → meaning (Filter (Bin And a b) r) ts env p ≡ meaning (Filter a (Filter b r)) ts env p
  conjunction_means a b r total =
      meaning-Filter ts env p (Bin And a b) r
      ∙ (λ i. filtered (λ row. expr_value-Bin row env p And a b i) (meaning r ts env p))
      ∙ filtered_by_both (λ row. expr_value a row env p) (λ row. expr_value b row env p) (λ row. total_gives_value a total row env p) (meaning r ts env p)
      ∙ sym (filters_mean a b r)

  pub filter_of_join_means : (e c : Expr) (r s : Rel) → meaning (Filter e (Join c r s)) ts env p ≡ filtered (λ row. expr_value e row env p) (filtered (λ row. expr_value c row env p) (crossed (meaning r ts env p ∷ meaning s ts env p ∷ [])))
  filter_of_join_means e c r s = meaning-Filter ts env p e (Join c r s) ∙ ap (filtered (λ row. expr_value e row env p)) (meaning-Join ts env p c r s)

  -- a join by a conjunction is a filter by its second side, where that is total, over a join by its first
  pub joined_by_both : (c e : Expr) (r s : Rel) → is_total_expr e ≡ true → meaning (Join (Bin And c e) r s) ts env p ≡ meaning (Filter e (Join c r s)) ts env p
  joined_by_both c e r s total =
      let pairs = crossed (meaning r ts env p ∷ meaning s ts env p ∷ []) in
      meaning-Join ts env p (Bin And c e) r s
      ∙ (λ i. filtered (λ row. (expr_value-Bin row env p And c e ∙ conjunction_commutes (expr_value c row env p) (expr_value e row env p)) i) pairs)
      ∙ filtered_by_both (λ row. expr_value e row env p) (λ row. expr_value c row env p) (λ row. total_gives_value e total row env p) pairs
      ∙ sym (filter_of_join_means e c r s)
