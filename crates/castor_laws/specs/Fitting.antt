-- What values and rows of well-typed expressions and relations are of the types.
use Rattle.std.specs.Prelude.{◌≡◌, List, Bool, true, Some, Result, Ok, Err}
use Rattle.castor_val.specs.declared.fault.Faults.{Faults}
use Rattle.castor_val.specs.declared.row.Row.{Row}
use Rattle.castor_val.specs.declared.table.Table.{Table}
use Rattle.castor_val.specs.declared.value.Ty.{Ty}
use Rattle.castor_val.specs.Values.{row_fits, table_fits, value_fits}
use Rattle.castor_alg.specs.declared.context.Context.{Context}
use Rattle.castor_alg.specs.declared.expr.Expr.{Expr}
use Rattle.castor_alg.specs.declared.rel.Rel.{Rel}
use Rattle.castor_alg.specs.Expression.{Answer, expr_value}
use Rattle.castor_alg.specs.Fits.{Fits, ScopesFit}
use Rattle.castor_alg.specs.Meaning.{meaning}
use Rattle.castor_alg.specs.Scopes.{Scopes}
use Rattle.castor_alg.specs.Typing.{are_columns, column_types, type_under, types_under}

-- the answer is a value of the type, or a fault
abbrev pub answer_fits : Answer → Ty → Bool
answer_fits (Ok v) t = value_fits v t
answer_fits (Err f) t = true

-- the answers are a row of the types, or faults
abbrev pub answers_fit : Result Row Faults → List Ty → Bool
answers_fit (Ok row) types = row_fits row types
answers_fit (Err f) types = true

-- where the expression has a type, over a row, an environment and parameters that fit its value is of that type
abbrev pub ValueFits : Expr → Type 0
ValueFits e = (columns : List Ty) (context : Context) (t : Ty) → type_under e columns context ≡ Some t → (row : Row) (env : Scopes) (params : Row) → row_fits row columns ≡ true → ScopesFit env context.scopes → row_fits params context.params ≡ true → answer_fits (expr_value e row env params) t ≡ true

-- where the relation has column types, over tables, an environment and parameters that fit its rows are of these types
abbrev pub RowsFit : Rel → Type 0
RowsFit q = (context : Context) (types : List Ty) → types_under q context ≡ Some types → (tables : List Table) (env : Scopes) (params : Row) → Fits context tables env params → table_fits (meaning q tables env params).rows types ≡ true

-- where the relation is well typed, it has 1 to 64 columns
abbrev pub HasColumns : Rel → Context → Type 0
HasColumns q context = (types : List Ty) → column_types q context ≡ Some types → are_columns types ≡ true
