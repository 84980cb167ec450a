-- What an expression of names means and its type, or why it is refused. Its operands come left to right, then itself.
use Rattle.std.specs.Prelude.{ℕ, List, [], Option, Some, None, Result, Ok, Err, position, slice_get, ok_or, option_and_then, option_map}
use Rattle.std.specs.Str.{bytes_eq}
use Rattle.castor_val.specs.declared.column.Column.{Column}
use Rattle.castor_val.specs.declared.value.Ty.{Ty}
use Rattle.castor_alg.specs.declared.expr.Expr.{Expr}
use Rattle.castor_alg.specs.declared.expr.Expr as core
use Rattle.castor_alg.specs.declared.expr.Op.{Op}
use Rattle.castor_alg.specs.Typing.{choice_type, literal_type, negation_type, operator_type}
use Rattle.castor_tree.specs.declared.tree.PCol.{PCol}
use Rattle.castor_tree.specs.declared.tree.PCol.TheVariants.{Name, Dotted, Number}
use Rattle.castor_tree.specs.declared.tree.PExpr.{PExpr, fold-PExpr}
use Rattle.castor_tree.specs.declared.tree.PExpr.TheOpen.{PExpr-F, Col, ScopeAt, Param, Lit, Bin, Not, If}
use Rattle.castor_names.specs.Names.{by_name, by_qualifier, column_number}
use Rattle.castor_names.specs.Scopes.{innermost}
use Rattle.castor_names.specs.Turns.{and_then}
use Rattle.castor_names.specs.declared.column.NamedColumn.{NamedColumn}
use Rattle.castor_names.specs.declared.declarations.Declarations.{Declarations}
use Rattle.castor_names.specs.declared.error.SchemaError.{SchemaError}
use Rattle.castor_names.specs.declared.error.SchemaError.TheVariants.{UnknownColumn, UnknownScope, UnknownParam, TypeMismatch}
use Rattle.castor_names.specs.declared.scopes.Scope.{Scope}
use Rattle.castor_exprs.specs.declared.expression.Typed.{Typed}

-- the column of a number, as an expression
abbrev pub column_read : List NamedColumn → ℕ → Result Typed SchemaError
column_read columns number = ok_or (option_map (λ (c : NamedColumn). record { expr = core.Col number; ty = c.ty }) (slice_get columns number)) UnknownColumn

-- the column of a number of a scope, as an expression
abbrev pub scope_read : Scope → ℕ → Result Typed SchemaError
scope_read scope number = ok_or (option_map (λ (c : NamedColumn). record { expr = core.Scope scope.number number; ty = c.ty }) (slice_get scope.columns number)) UnknownColumn

-- `A.B`: the one column named B of the innermost scope A, and where A is no scope in force a column with qualifier A
abbrev pub dotted : Option Scope → List NamedColumn → List ℕ → List ℕ → Result Typed SchemaError
dotted (Some scope) columns first second = and_then (by_name scope.columns second) (λ number. scope_read scope number)
dotted None columns first second = and_then (by_qualifier columns first second) (λ number. column_read columns number)

-- a name of a column, of a column of a scope or table, or a column's number
unfoldable pub column_meant : List Scope → List NamedColumn → PCol → Result Typed SchemaError
column_meant scopes columns (Name word) = and_then (column_number columns (Name word)) (λ number. column_read columns number)
column_meant scopes columns (Dotted first second) = dotted (innermost scopes first.text) columns first.text second.text
column_meant scopes columns (Number number) = and_then (column_number columns (Number number)) (λ at. column_read columns at)

-- `A.3`: column 3 of the innermost scope A
unfoldable pub scope_number : Option Scope → ℕ → Result Typed SchemaError
scope_number None number = Err UnknownScope
scope_number (Some scope) number = scope_read scope number

-- `$p`: the parameter of that name
unfoldable pub parameter : List Column → List ℕ → Result Typed SchemaError
parameter params name =
    ok_or (option_and_then (λ number. option_map (λ (p : Column). record { expr = core.Param number; ty = p.ty }) (slice_get params number))
    (position (λ (p : Column). bytes_eq p.name name) params)) UnknownParam

-- an expression of a type, and TypeMismatch where it has none
abbrev pub with_type : Expr → Option Ty → Result Typed SchemaError
with_type e None = Err TypeMismatch
with_type e (Some type) = Ok (record { expr = e; ty = type })

-- a binary operator over its sides
unfoldable pub operation : Op → Typed → Typed → Result Typed SchemaError
operation op a b = with_type (core.Bin op a.expr b.expr) (operator_type op (Some a.ty) (Some b.ty))

-- `not` over its side
unfoldable pub negation : Typed → Result Typed SchemaError
negation a = with_type (core.Not a.expr) (negation_type (Some a.ty))

-- `if` over its condition and its sides
unfoldable pub choice : Typed → Typed → Typed → Result Typed SchemaError
choice condition a b = with_type (core.If condition.expr a.expr b.expr) (choice_type (Some condition.ty) (Some a.ty) (Some b.ty))

-- what an expression means takes what is declared, the scopes in force and the columns of the row
abbrev pub Reading : Type 0
Reading = Declarations → List Scope → List NamedColumn → Result Typed SchemaError

-- one node of an expression
abbrev pub expression_step : PExpr-F Reading → Reading
expression_step (Col c) known scopes columns = column_meant scopes columns c
expression_step (ScopeAt word number) known scopes columns = scope_number (innermost scopes word.text) number
expression_step (Param word) known scopes columns = parameter known.params word.text
expression_step (Lit type value) known scopes columns = with_type (core.Lit value) (literal_type value)
expression_step (Bin op a b) known scopes columns =
    and_then (a known scopes columns) (λ left.
    and_then (b known scopes columns) (λ right. operation op left right))
expression_step (Not a) known scopes columns = and_then (a known scopes columns) (λ side. negation side)
expression_step (If condition a b) known scopes columns =
    and_then (condition known scopes columns) (λ test.
    and_then (a known scopes columns) (λ left.
    and_then (b known scopes columns) (λ right. choice test left right)))

-- what an expression of names means
abbrev pub expression : PExpr → Reading
expression e = fold-PExpr Reading expression_step e
