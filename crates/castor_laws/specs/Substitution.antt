-- What expressions and relations mean in which columns or a scope are replaced.
use Rattle.std.specs.Prelude.{◌≡◌, ℕ, List, [], map, false, true, Ok}
use Rattle.std.specs.List.{list_all, list_any}
use Rattle.castor_val.specs.declared.row.Row.{Row}
use Rattle.castor_val.specs.declared.table.Table.{Table}
use Rattle.castor_alg.specs.declared.expr.Expr.{Expr}
use Rattle.castor_alg.specs.declared.rel.Rel.{Rel}
use Rattle.castor_alg.specs.Expression.{expr_value, expr_values}
use Rattle.castor_alg.specs.FreeScopes.{reads}
use Rattle.castor_alg.specs.Meaning.{meaning}
use Rattle.castor_alg.specs.Scopes.{Scopes, bind}
use Rattle.castor_alg.specs.Substitution.{captures, cols_to_scope, subst_cols, subst_scope}
use Rattle.castor_laws.specs.ColumnFree.{is_column_free}

-- where the replacing expressions have values, the value is that over a row of them
abbrev pub ColumnsHaveValues : List Expr → Expr → Type 0
ColumnsHaveValues by e = (row : Row) (env : Scopes) (params values : Row) → expr_values by row env params ≡ Ok values → expr_value (subst_cols by e) row env params ≡ expr_value e values env params

-- over any row the value is that over the scope's row
abbrev pub ColumnsAreOfScope : ℕ → Expr → Type 0
ColumnsAreOfScope k e = (row : Row) (env : Scopes) (params : Row) → expr_value (cols_to_scope k e) row env params ≡ expr_value e (env k) env params

-- the values of the expressions are these, whatever the row is
abbrev pub HaveValues : List Expr → Scopes → Row → Row → Type 0
HaveValues by env params values = (row : Row) → expr_values by row env params ≡ Ok values

-- where no binder captures and the replacing expressions have values over every row, the meaning is that where the scope has them
abbrev pub ScopeHasValues : ℕ → List Expr → Rel → Type 0
ScopeHasValues k by q = captures k by q ≡ false → (tables : List Table) (env : Scopes) (params values : Row) → HaveValues by env params values → meaning (subst_scope k by q) tables env params ≡ meaning q tables (bind env k values) params

-- also where these have no columns and values over the empty row
abbrev pub ScopeHasColumnFreeValues : ℕ → List Expr → Rel → Type 0
ScopeHasColumnFreeValues k by q = captures k by q ≡ false → list_all is_column_free by ≡ true → (tables : List Table) (env : Scopes) (params values : Row) → expr_values by [] env params ≡ Ok values → meaning (subst_scope k by q) tables env params ≡ meaning q tables (bind env k values) params

-- where none of the expressions reads the scope, over any row their values where the scope has a row are those over that
abbrev pub ColumnsOfEachAreOfBound : ℕ → List Expr → Type 0
ColumnsOfEachAreOfBound k es = list_any (reads k) es ≡ false → (row other : Row) (env : Scopes) (params : Row) → expr_values (map (cols_to_scope k) es) other (bind env k row) params ≡ expr_values es row env params
