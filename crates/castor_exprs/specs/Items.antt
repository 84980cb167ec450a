-- The columns that items put out.
use Rattle.std.specs.Prelude.{ℕ, ◌++◌, List, [], ◌∷◌, Option, Some, None, Result, Ok, length, slice_get}
use Rattle.std.specs.Option.{option_map_or}
use Rattle.castor_val.specs.declared.value.Ty.{Ty}
use Rattle.castor_alg.specs.declared.expr.Expr.{Expr, out-Expr}
use Rattle.castor_alg.specs.declared.expr.Expr.TheOpen.{Expr-F, Col, Scope as ScopeColumn}
use Rattle.castor_tree.specs.declared.tree.Item.{Item}
use Rattle.castor_tree.specs.declared.tree.Word.{Word}
use Rattle.castor_names.specs.Names.{column_called, column_numbered}
use Rattle.castor_names.specs.Scopes.{scope_column}
use Rattle.castor_names.specs.Turns.{and_then, in_order}
use Rattle.castor_names.specs.declared.column.NamedColumn.{NamedColumn}
use Rattle.castor_names.specs.declared.declarations.Declarations.{Declarations}
use Rattle.castor_names.specs.declared.error.SchemaError.{SchemaError}
use Rattle.castor_names.specs.declared.scopes.Scope.{Scope}
use Rattle.castor_exprs.specs.Expressions.{expression}
use Rattle.castor_exprs.specs.declared.expression.Typed.{Typed}
use Rattle.castor_exprs.specs.declared.items.Output.{Output}
use Rattle.castor_exprs.specs.declared.items.Selection.{Selection}

-- a column of the operand keeps its name and its qualifier
abbrev pub kept_column : List NamedColumn → ℕ → Ty → ℕ → NamedColumn
kept_column columns number type at = option_map_or (λ (c : NamedColumn). record { name = c.name; qualifier = c.qualifier; ty = type }) (slice_get columns at) (column_numbered number type)

-- a column of a scope keeps its name, and has no qualifier
abbrev pub unqualified_column : List Scope → ℕ → Ty → ℕ → ℕ → NamedColumn
unqualified_column scopes number type scope at = option_map_or (λ (c : NamedColumn). column_called c.name type) (scope_column scopes scope at) (column_numbered number type)

-- the column of an item without `as`
unfoldable pub bare_column : List Scope → List NamedColumn → ℕ → Ty → Expr-F Expr → NamedColumn
bare_column scopes columns number type (Col at) = kept_column columns number type at
bare_column scopes columns number type (ScopeColumn scope at) = unqualified_column scopes number type scope at
bare_column scopes columns number type other = column_numbered number type

-- the column that an item puts out under its number
unfoldable pub item_column : List Scope → List NamedColumn → ℕ → Option Word → Typed → NamedColumn
item_column scopes columns number (Some word) found = column_called word.text found.ty
item_column scopes columns number None found = bare_column scopes columns number found.ty (out-Expr found.expr)

-- an expression with the column that it puts out
unfoldable pub output_of : List Scope → List NamedColumn → ℕ → Option Word → Typed → Result Output SchemaError
output_of scopes columns number name found = Ok (record { expr = found.expr; column = item_column scopes columns number name found })

-- an item under its number
unfoldable pub item_output : Declarations → List Scope → List NamedColumn → ℕ → Item → Result Output SchemaError
item_output known scopes columns number item = and_then (expression item.expr known scopes columns) (λ found. output_of scopes columns number item.name found)

-- one more item
abbrev pub with_item : Declarations → List Scope → List NamedColumn → Selection → Item → Result Selection SchemaError
with_item known scopes columns found item =
    and_then (item_output known scopes columns (length found.columns) item) (λ output.
    Ok (record { exprs = found.exprs ++ output.expr ∷ []; columns = found.columns ++ output.column ∷ [] }))

-- the items of a list, in their order
unfoldable pub items_selected : Declarations → List Scope → List NamedColumn → List Item → Result Selection SchemaError
items_selected known scopes columns items = in_order (with_item known scopes columns) (record { exprs = []; columns = [] }) items
