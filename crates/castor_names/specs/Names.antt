-- How the columns of a relation are called, and which one a name means.
use Rattle.std.specs.Prelude.{ℕ, ◌++◌, List, Option, Some, None, Result, Ok, Err, Bool, false, ◌&&◌, if◌then◌else◌, nat_lt, length, map, count_by, position, slice_get, ok_or, option_and_then, option_map, codes, decimal}
use Rattle.std.specs.List.{list_any}
use Rattle.std.specs.Str.{bytes_eq}
use Rattle.castor_val.specs.declared.column.Column.{Column}
use Rattle.castor_val.specs.declared.value.Ty.{Ty}
use Rattle.castor_alg.specs.declared.rel.Rel.{Table}
use Rattle.castor_tree.specs.declared.tree.PCol.{PCol}
use Rattle.castor_tree.specs.declared.tree.PCol.TheVariants.{Name, Dotted, Number}
use Rattle.castor_tree.specs.declared.tree.Word.{Word}
use Rattle.castor_names.specs.declared.table.Declared.{Declared}
use Rattle.castor_names.specs.declared.column.NamedColumn.{NamedColumn}
use Rattle.castor_names.specs.declared.error.SchemaError.{SchemaError}
use Rattle.castor_names.specs.declared.error.SchemaError.TheVariants.{UnknownColumn, UnknownScope, Ambiguous}

-- the column has the name
abbrev pub has_name : List ℕ → NamedColumn → Bool
has_name name column = bytes_eq column.name name

-- there is a qualifier, and it is this one
abbrev pub is_qualifier : List ℕ → Option (List ℕ) → Bool
is_qualifier qualifier None = false
is_qualifier qualifier (Some own) = bytes_eq own qualifier

-- the column has the qualifier
abbrev pub has_qualifier : List ℕ → NamedColumn → Bool
has_qualifier qualifier column = is_qualifier qualifier column.qualifier

-- the column has the qualifier and the name
abbrev pub has_both : List ℕ → List ℕ → NamedColumn → Bool
has_both qualifier name column = has_qualifier qualifier column && has_name name column

-- the number of the one column that is meant: several are Ambiguous, and none has a refusal of its own
abbrev pub the_one : (NamedColumn → Bool) → SchemaError → List NamedColumn → Result ℕ SchemaError
the_one is_meant none columns = if nat_lt 1 (count_by is_meant columns) then Err Ambiguous else ok_or (position is_meant columns) none

-- `X` is the one column of that name
unfoldable pub by_name : List NamedColumn → List ℕ → Result ℕ SchemaError
by_name columns name = the_one (has_name name) UnknownColumn columns

-- why no column has both: the qualifier is that of some column, or of none
abbrev pub none_of_both : List NamedColumn → List ℕ → SchemaError
none_of_both columns qualifier = if list_any (has_qualifier qualifier) columns then UnknownColumn else UnknownScope

-- `A.B`, where A is no scope, is the one column with qualifier A and name B
unfoldable pub by_qualifier : List NamedColumn → List ℕ → List ℕ → Result ℕ SchemaError
by_qualifier columns qualifier name = the_one (has_both qualifier name) (none_of_both columns qualifier) columns

-- `#j` is column j
unfoldable pub by_number : List NamedColumn → ℕ → Result ℕ SchemaError
by_number columns number = if nat_lt number (length columns) then Ok number else Err UnknownColumn

-- the number of the column that is meant, where names are those of columns alone
abbrev pub column_number : List NamedColumn → PCol → Result ℕ SchemaError
column_number columns (Name word) = by_name columns word.text
column_number columns (Dotted qualifier word) = by_qualifier columns qualifier.text word.text
column_number columns (Number number) = by_number columns number

-- the column of a number
abbrev pub the_column : List NamedColumn → ℕ → Result NamedColumn SchemaError
the_column columns number = ok_or (slice_get columns number) UnknownColumn

-- a column that `as` names
abbrev pub column_called : List ℕ → Ty → NamedColumn
column_called name type = record { name = name; qualifier = None; ty = type }

-- a column without a name of its own is called `c` and its number
abbrev pub column_numbered : ℕ → Ty → NamedColumn
column_numbered number type = column_called (codes "c" ++ decimal number) type

-- the name that `as` gives, or `c` and the number
abbrev pub called_or_numbered : Option Word → ℕ → Ty → NamedColumn
called_or_numbered (Some word) number type = column_called word.text type
called_or_numbered None number type = column_numbered number type

-- the columns of a table have its name as qualifier
abbrev pub columns_of_table : Declared → List NamedColumn
columns_of_table table = map (λ (c : Column). record { name = c.name; qualifier = Some table.name; ty = c.ty }) table.columns

-- columns without their qualifiers, as an answer has them
abbrev pub plain_columns : List NamedColumn → List Column
plain_columns columns = map (λ (c : NamedColumn). record { name = c.name; ty = c.ty }) columns

-- the types of columns
abbrev pub types_of : List NamedColumn → List Ty
types_of columns = map (λ (c : NamedColumn). c.ty) columns
