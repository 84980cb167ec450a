-- The columns of a scope give the row that it is bound to.
use Rattle.std.proofs.Common.{◌≡◌, ◌∙◌, ℕ, suc, ◌+◌, List, [], ◌∷◌, length, refl, sym, ap, Ok, arith}
use Rattle.castor_val.specs.declared.row.Row.{Row}
use Rattle.castor_val.specs.Values.{column}
use Rattle.castor_alg.specs.Expression.{expr_values, put_front}
use Rattle.castor_alg.specs.Scopes.{Scopes}
use Rattle.castor_laws.proofs.ExprClauseLaws.{expr_value-Scope}
use Rattle.castor_nest.specs.ScopeColumns.{scope_columns, scope_columns_from}

module _ (env : Scopes) (params : Row) where
  -- the columns of a scope that is bound to a row, from one of them on
  columns_read : (k at : ℕ) (row rest : Row) → env k ≡ row → ((i : ℕ) → column row (at + i) ≡ column rest i) → expr_values (scope_columns_from k at (length rest)) [] env params ≡ Ok rest
  columns_read k at row [] is same = refl
  columns_read k at row (v ∷ rest) is same =
      let here : at + 0 ≡ at = omega arith in
      let first : column (env k) at ≡ v = ap (λ (r : Row). column r at) is ∙ ap (column row) (sym here) ∙ same 0 in
      (λ i. put_front ((expr_value-Scope [] env params k at ∙ ap Ok first) i) (columns_read k (at + 1) row rest is (λ j. further j) i))
    where
      further : (j : ℕ) → column row (at + 1 + j) ≡ column rest j
      further j = let next : at + 1 + j ≡ at + suc j = omega arith in ap (column row) next ∙ same (suc j)

  pub scope_is_row : (k n : ℕ) (row : Row) → env k ≡ row → length row ≡ n → expr_values (scope_columns k n) [] env params ≡ Ok row
  scope_is_row k n row is long = ap (λ (m : ℕ). expr_values (scope_columns k m) [] env params) (sym long) ∙ columns_read k 0 row row is (λ i. let first : 0 + i ≡ i = omega arith in ap (column row) first)
