-- What a file declares, or why a declaration is refused.
use Rattle.std.specs.Prelude.{ℕ, ◌++◌, List, [], ◌∷◌, Result, Ok, Err, Bool, ◌||◌, if◌then◌else◌, nat_lt, nat_le, length}
use Rattle.std.specs.List.{list_any}
use Rattle.std.specs.Str.{bytes_eq}
use Rattle.castor_val.specs.Limits.{most_columns, most_params, most_tables}
use Rattle.castor_val.specs.declared.column.Column.{Column}
use Rattle.castor_val.specs.declared.value.Ty.{Ty}
use Rattle.castor_tree.specs.declared.tree.Decl.{Decl}
use Rattle.castor_tree.specs.declared.tree.Decl.TheVariants.{Table, Param}
use Rattle.castor_tree.specs.declared.tree.Word.{Word}
use Rattle.castor_names.specs.Turns.{and_then, in_order}
use Rattle.castor_names.specs.declared.table.Declared.{Declared}
use Rattle.castor_names.specs.declared.declarations.Declarations.{Declarations}
use Rattle.castor_names.specs.declared.error.SchemaError.{SchemaError}
use Rattle.castor_names.specs.declared.error.SchemaError.TheVariants.{DuplicateName, TooLarge}

-- a column or a parameter has the name
abbrev pub is_column_name : List Column → List ℕ → Bool
is_column_name columns name = list_any (λ (c : Column). bytes_eq c.name name) columns

-- a table has the name
abbrev pub is_table_name : List Declared → List ℕ → Bool
is_table_name tables name = list_any (λ (t : Declared). bytes_eq t.name name) tables

-- one more column of a table: no other column of the table has its name
unfoldable pub with_column : List Column → Word × Ty → Result (List Column) SchemaError
with_column columns (word, type) =
    if is_column_name columns word.text then Err DuplicateName
    else Ok (columns ++ record { name = word.text; ty = type } ∷ [])

-- the columns of a table, in their order
abbrev pub columns_declared : List (Word × Ty) → Result (List Column) SchemaError
columns_declared columns = in_order with_column [] columns

-- the table is one of the first 16, and has at most 64 columns
abbrev pub with_table_of : Declarations → List ℕ → List Column → Result Declarations SchemaError
with_table_of found name columns =
    if nat_lt most_columns (length columns) || nat_le most_tables (length found.tables) then Err TooLarge
    else Ok (record found { tables = found.tables ++ record { name = name; columns = columns } ∷ [] })

-- one more table: its name, which no other table has, then its columns, then how many there are
unfoldable pub with_table : Declarations → Word → List (Word × Ty) → Result Declarations SchemaError
with_table found word columns =
    if is_table_name found.tables word.text then Err DuplicateName
    else and_then (columns_declared columns) (λ checked. with_table_of found word.text checked)

-- one more parameter: its name, which no other parameter has, then that it is one of the first 16
unfoldable pub with_param : Declarations → Word → Ty → Result Declarations SchemaError
with_param found word type =
    if is_column_name found.params word.text then Err DuplicateName
    else (if nat_le most_params (length found.params) then Err TooLarge
    else Ok (record found { params = found.params ++ record { name = word.text; ty = type } ∷ [] }))

-- one more declaration
unfoldable pub with_declaration : Declarations → Decl → Result Declarations SchemaError
with_declaration found (Table word columns) = with_table found word columns
with_declaration found (Param word type) = with_param found word type

-- no tables and no parameters
abbrev pub no_declarations : Declarations
no_declarations = record { tables = []; params = [] }

-- the tables and parameters of declarations, in their order
abbrev pub declared : List Decl → Result Declarations SchemaError
declared decls = in_order with_declaration no_declarations decls
