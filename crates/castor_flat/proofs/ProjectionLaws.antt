-- Projections to total expressions.
use Rattle.std.proofs.Common.{◌≡◌, ◌∙◌, List, map, true, sym, ap, Ok}
use Rattle.std.specs.List.{list_all}
use Rattle.castor_val.specs.declared.row.Row.{Row}
use Rattle.castor_val.specs.declared.table.Table.{Table}
use Rattle.castor_alg.specs.declared.expr.Expr.{Expr}
use Rattle.castor_alg.specs.declared.rel.Rel.{Rel, Filter, Select}
use Rattle.castor_alg.specs.Expression.{expr_value, expr_values}
use Rattle.castor_alg.specs.Meaning.{meaning}
use Rattle.castor_alg.specs.Rows.{filtered, selected}
use Rattle.castor_alg.specs.Scopes.{Scopes}
use Rattle.castor_alg.specs.Substitution.{subst_cols}
use Rattle.castor_alg.specs.Totality.{is_total_expr}
use Rattle.castor_laws.proofs.ColumnSubstitutionLaws.{columns_have_values}
use Rattle.castor_laws.proofs.EachSubstitutionLaws.{columns_of_each_have_values}
use Rattle.castor_laws.proofs.MoveLaws.{after_projection}
use Rattle.castor_laws.proofs.RelClauseLaws.{meaning-Filter, meaning-Select}
use Rattle.castor_laws.proofs.TotalExprLaws.{totals_give_values}

module _ (ts : List Table) (env : Scopes) (p : Row) (fs : List Expr) (total : list_all is_total_expr fs ≡ true) where
  -- the row of the values of the expressions
  abbrev projected : Row → Row
  projected row = (totals_give_values fs total row env p).0

  projects : (row : Row) → expr_values fs row env p ≡ Ok (projected row)
  projects row = (totals_give_values fs total row env p).1

  projection_means : (r : Rel) → meaning (Select fs r) ts env p ≡ selected (λ row. Ok (projected row)) (meaning r ts env p)
  projection_means r = meaning-Select ts env p fs r ∙ (λ i. selected (λ row. projects row i) (meaning r ts env p))

  pub projections_merge : (es : List Expr) (r : Rel) → meaning (Select es (Select fs r)) ts env p ≡ meaning (Select (map (subst_cols fs) es) r) ts env p
  projections_merge es r =
      let items = λ (row : Row). expr_values es row env p in
      meaning-Select ts env p es (Select fs r)
      ∙ ap (selected items) (projection_means r)
      ∙ (after_projection projected (meaning r ts env p)).select items
      ∙ (λ i. selected (λ row. sym (columns_of_each_have_values fs es row env p (projected row) (projects row)) i) (meaning r ts env p))
      ∙ sym (meaning-Select ts env p (map (subst_cols fs) es) r)

  pub filter_goes_under : (e : Expr) (r : Rel) → meaning (Filter e (Select fs r)) ts env p ≡ meaning (Select fs (Filter (subst_cols fs e) r)) ts env p
  filter_goes_under e r =
      let test = λ (row : Row). expr_value e row env p in
      meaning-Filter ts env p e (Select fs r)
      ∙ ap (filtered test) (projection_means r)
      ∙ (after_projection projected (meaning r ts env p)).filter test
      ∙ (λ i. selected (λ row. Ok (projected row)) (filtered (λ row. sym (columns_have_values fs e row env p (projected row) (projects row)) i) (meaning r ts env p)))
      ∙ ap (selected (λ row. Ok (projected row))) (sym (meaning-Filter ts env p (subst_cols fs e) r))
      ∙ sym (projection_means (Filter (subst_cols fs e) r))
