-- The meaning of a relation in which a scope is replaced by expressions without columns.
use Rattle.std.proofs.Common.{◌≡◌, ◌∙◌, ℕ, List, [], ◌∷◌, refl, true}
use Rattle.std.specs.List.{list_all}
use Rattle.std.proofs.lemmas.Bool.{and_parts}
use Rattle.castor_val.specs.declared.row.Row.{Row}
use Rattle.castor_alg.specs.declared.expr.Expr.{Expr}
use Rattle.castor_alg.specs.declared.rel.Rel.{Rel}
use Rattle.castor_alg.specs.Expression.{expr_values, put_front}
use Rattle.castor_alg.specs.Scopes.{Scopes}
use Rattle.castor_laws.specs.ColumnFree.{is_column_free}
use Rattle.castor_laws.specs.Substitution.{ScopeHasColumnFreeValues}
use Rattle.castor_laws.proofs.ColumnFreeLaws.{value_without_columns}
use Rattle.castor_laws.proofs.ScopeSubstitutionLaws.{scope_has_values}

-- expressions without columns have the same values over every row
pub values_without_columns : (es : List Expr) → list_all is_column_free es ≡ true → (row other : Row) (env : Scopes) (p : Row) → expr_values es row env p ≡ expr_values es other env p
values_without_columns [] free row other env p = refl
values_without_columns (e ∷ es) free row other env p =
    let parts = and_parts (is_column_free e) (list_all is_column_free es) free in
    λ i. put_front (value_without_columns e parts.0 row other env p i) (values_without_columns es parts.1 row other env p i)

pub scope_has_column_free_values : (k : ℕ) (by : List Expr) (q : Rel) → ScopeHasColumnFreeValues k by q
scope_has_column_free_values k by q none free ts env p values known =
    scope_has_values k by q none ts env p values (λ row. values_without_columns by free row [] env p ∙ known)
