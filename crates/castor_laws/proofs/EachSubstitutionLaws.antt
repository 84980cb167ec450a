-- The values of several expressions whose columns are replaced.
use Rattle.std.proofs.Common.{◌≡◌, List, [], ◌∷◌, map, refl, Ok}
use Rattle.castor_val.specs.declared.row.Row.{Row}
use Rattle.castor_alg.specs.declared.expr.Expr.{Expr}
use Rattle.castor_alg.specs.Expression.{expr_values, put_front}
use Rattle.castor_alg.specs.Scopes.{Scopes}
use Rattle.castor_alg.specs.Substitution.{subst_cols}
use Rattle.castor_laws.proofs.ColumnSubstitutionLaws.{columns_have_values}

pub columns_of_each_have_values : (by es : List Expr) (row : Row) (env : Scopes) (p values : Row) → expr_values by row env p ≡ Ok values → expr_values (map (subst_cols by) es) row env p ≡ expr_values es values env p
columns_of_each_have_values by [] row env p values are = refl
columns_of_each_have_values by (e ∷ es) row env p values are = λ i. put_front (columns_have_values by e row env p values are i) (columns_of_each_have_values by es row env p values are i)
