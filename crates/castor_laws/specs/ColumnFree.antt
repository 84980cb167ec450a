-- Expressions in which there is no column.
use Rattle.std.specs.Prelude.{◌≡◌, List, [], Bool, true, false, ◌&&◌, Some}
use Rattle.castor_val.specs.declared.row.Row.{Row}
use Rattle.castor_val.specs.declared.value.Ty.{Ty}
use Rattle.castor_alg.specs.declared.context.Context.{Context}
use Rattle.castor_alg.specs.declared.expr.Expr.{Expr, fold-Expr}
use Rattle.castor_alg.specs.declared.expr.Expr.TheOpen.{Expr-F, Col, Scope, Param, Lit, Bin, Not, If}
use Rattle.castor_alg.specs.Expression.{expr_value}
use Rattle.castor_alg.specs.Scopes.{Scopes}
use Rattle.castor_alg.specs.Typing.{type_under}

abbrev pub column_free_step : Expr-F Bool → Bool
column_free_step (Col i) = false
column_free_step (Scope k i) = true
column_free_step (Param i) = true
column_free_step (Lit v) = true
column_free_step (Bin op a b) = a && b
column_free_step (Not a) = a
column_free_step (If c a b) = c && (a && b)

-- the expression has no column
abbrev pub is_column_free : Expr → Bool
is_column_free e = fold-Expr Bool column_free_step e

-- if it has none, it has one value over every row
abbrev pub ValueIgnoresRow : Expr → Type 0
ValueIgnoresRow e = is_column_free e ≡ true → (row other : Row) (env : Scopes) (params : Row) → expr_value e row env params ≡ expr_value e other env params

-- and one type over all columns
abbrev pub TypeIgnoresColumns : Expr → Type 0
TypeIgnoresColumns e = is_column_free e ≡ true → (columns others : List Ty) (context : Context) → type_under e columns context ≡ type_under e others context

-- what has a type over no columns has none
abbrev pub ClosedIsColumnFree : Expr → Type 0
ClosedIsColumnFree e = (context : Context) (t : Ty) → type_under e [] context ≡ Some t → is_column_free e ≡ true
