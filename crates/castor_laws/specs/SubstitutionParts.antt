-- What is total, free and without columns in expressions and relations in which columns or a scope are replaced.
use Rattle.std.specs.Prelude.{◌≡◌, ℕ, ◌==◌, List, true, ◌||◌}
use Rattle.std.specs.List.{list_all, list_any}
use Rattle.castor_alg.specs.declared.expr.Expr.{Expr}
use Rattle.castor_alg.specs.declared.rel.Rel.{Rel}
use Rattle.castor_alg.specs.FreeScopes.{is_free, passes, reads}
use Rattle.castor_alg.specs.Substitution.{cols_to_scope, subst_cols, subst_scope}
use Rattle.castor_alg.specs.Totality.{is_total, is_total_expr}
use Rattle.castor_laws.specs.ColumnFree.{is_column_free}

-- where the replacing expressions are total, the expression is total as before
abbrev pub ColumnsStayTotal : List Expr → Expr → Type 0
ColumnsStayTotal by e = list_all is_total_expr by ≡ true → is_total_expr (subst_cols by e) ≡ is_total_expr e

-- the expression is total as before
abbrev pub ColumnsOfScopeStayTotal : ℕ → Expr → Type 0
ColumnsOfScopeStayTotal k e = is_total_expr (cols_to_scope k e) ≡ is_total_expr e

-- where the replacing expressions are total, the relation is total as before
abbrev pub ScopeStaysTotal : ℕ → List Expr → Rel → Type 0
ScopeStaysTotal k by q = list_all is_total_expr by ≡ true → is_total (subst_scope k by q) ≡ is_total q

-- a scope that is read was read before, or by a replacing expression
abbrev pub ColumnsReadKnown : List Expr → Expr → Type 0
ColumnsReadKnown by e = (j : ℕ) → reads j (subst_cols by e) ≡ true → (reads j e || list_any (reads j) by) ≡ true

-- a scope that is read was read before, or is the one of the columns
abbrev pub ColumnsReadScope : ℕ → Expr → Type 0
ColumnsReadScope k e = (j : ℕ) → reads j (cols_to_scope k e) ≡ true → (reads j e || k == j) ≡ true

-- a scope that is free was free before and isn't the replaced one, or is read by a replacing expression
abbrev pub ScopeFreesKnown : ℕ → List Expr → Rel → Type 0
ScopeFreesKnown k by q = (j : ℕ) → is_free j (subst_scope k by q) ≡ true → (passes j k (is_free j q) || list_any (reads j) by) ≡ true

-- where the replacing expressions have no columns, none is left
abbrev pub ColumnsAreGone : List Expr → Expr → Type 0
ColumnsAreGone by e = list_all is_column_free by ≡ true → is_column_free (subst_cols by e) ≡ true

-- no column is left
abbrev pub ColumnsAreGoneToScope : ℕ → Expr → Type 0
ColumnsAreGoneToScope k e = is_column_free (cols_to_scope k e) ≡ true
