-- Expressions of which each column passes a test.
use Rattle.std.specs.Prelude.{◌≡◌, ℕ, List, Bool, true, ◌&&◌, slice_get}
use Rattle.castor_val.specs.declared.row.Row.{Row}
use Rattle.castor_val.specs.declared.value.Ty.{Ty}
use Rattle.castor_val.specs.Values.{column}
use Rattle.castor_alg.specs.declared.context.Context.{Context}
use Rattle.castor_alg.specs.declared.expr.Expr.{Expr, fold-Expr}
use Rattle.castor_alg.specs.declared.expr.Expr.TheOpen.{Expr-F, Col, Scope, Param, Lit, Bin, Not, If}
use Rattle.castor_alg.specs.Expression.{expr_value}
use Rattle.castor_alg.specs.Scopes.{Scopes}
use Rattle.castor_alg.specs.Typing.{type_under}

abbrev pub columns_pass_step : (ℕ → Bool) → Expr-F Bool → Bool
columns_pass_step test (Col i) = test i
columns_pass_step test (Scope k i) = true
columns_pass_step test (Param i) = true
columns_pass_step test (Lit v) = true
columns_pass_step test (Bin op a b) = a && b
columns_pass_step test (Not a) = a
columns_pass_step test (If c a b) = c && (a && b)

-- the number of each column of the expression passes the test
abbrev pub columns_pass : (ℕ → Bool) → Expr → Bool
columns_pass test e = fold-Expr Bool (columns_pass_step test) e

-- if they do, it has one value over two rows that have the same values in the columns that pass
abbrev pub ValueRestsOnColumns : (ℕ → Bool) → Expr → Type 0
ValueRestsOnColumns test e = columns_pass test e ≡ true → (row other : Row) → ((i : ℕ) → test i ≡ true → column row i ≡ column other i) → (env : Scopes) (params : Row) → expr_value e row env params ≡ expr_value e other env params

-- and one type over two lists of columns that have the same types in those that pass
abbrev pub TypeRestsOnColumns : (ℕ → Bool) → Expr → Type 0
TypeRestsOnColumns test e = columns_pass test e ≡ true → (columns others : List Ty) → ((i : ℕ) → test i ≡ true → slice_get columns i ≡ slice_get others i) → (context : Context) → type_under e columns context ≡ type_under e others context
