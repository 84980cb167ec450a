-- The rows of a file of records, or why the file is refused.
use Rattle.std.specs.Prelude.{ℕ, List, [], ◌∷◌, ◌==◌, Option, Result, Ok, Err, if◌then◌else◌, length, map, ok_or}
use Rattle.std.specs.Cmp.Lexicographic.{pointwise}
use Rattle.std.specs.List.{enumerate_from, zip}
use Rattle.std.specs.Result.{result_ok}
use Rattle.std.specs.Str.{bytes_eq}
use Rattle.csv.specs.Reading.{default_config, records, strip_bom}
use Rattle.castor_val.specs.Columns.{types_of}
use Rattle.castor_val.specs.Fields.{field_value}
use Rattle.castor_val.specs.declared.column.Column.{Column}
use Rattle.castor_val.specs.declared.row.Row.{Row}
use Rattle.castor_val.specs.declared.table.Table.{Table}
use Rattle.castor_val.specs.declared.value.Ty.{Ty}
use Rattle.castor_val.specs.declared.value.Value.{Value}
use Rattle.castor_load.specs.Words.{Record}
use Rattle.castor_load.specs.declared.error.LoadError.{LoadError}
use Rattle.castor_load.specs.declared.error.LoadError.TheVariants.{BadHeader, BadRecord, BadField}

-- the names of columns
abbrev pub names_of : List Column → List (List ℕ)
names_of columns = map (λ c. c.name) columns

-- the value that a field is read as, if it is of the type
abbrev pub field_read : Ty → List ℕ → Option Value
field_read ty field = result_ok (field_value ty field)

-- an answer before those that come after it: all of them, or the first refusal
abbrev pub and_more : {X E : Type 0} → Result X E → Result (List X) E → Result (List X) E
and_more (Err why) more = Err why
and_more (Ok x) (Err why) = Err why
and_more (Ok x) (Ok more) = Ok (x ∷ more)

-- all of a list of answers, or the first refusal
unfoldable pub all_or_refusal : {X E : Type 0} → List (Result X E) → Result (List X) E
all_or_refusal [] = Ok []
all_or_refusal (answer ∷ more) = and_more answer (all_or_refusal more)

-- the values of fields from a column on, in the record of this number
abbrev pub values_from : ℕ → ℕ → List Ty → Record → Result Row LoadError
values_from number column types fields = all_or_refusal (map (λ f. ok_or (field_read f.1.0 f.1.1) (BadField number f.0)) (enumerate_from column (zip types fields)))

-- the row of the record of this number: as many fields as types, each of its type
abbrev pub row_of : ℕ → List Ty → Record → Result Row LoadError
row_of number types fields = if length fields == length types then values_from number 0 types fields else Err (BadRecord number)

-- the rows of records, the first of which has this number
abbrev pub rows_from : ℕ → List Ty → List Record → Result Table LoadError
rows_from number types rest = all_or_refusal (map (λ r. row_of r.0 types r.1) (enumerate_from number rest))

-- the table of records: the header, which is the names of the columns in order, and then the rows
abbrev pub table_of_records : List Column → List Record → Result Table LoadError
table_of_records columns [] = Err BadHeader
table_of_records columns (header ∷ rest) = if pointwise bytes_eq header (names_of columns) then rows_from 1 (types_of columns) rest else Err BadHeader

-- the table of a file, or why it is refused
abbrev pub table_of : List Column → List ℕ → Result Table LoadError
table_of columns bytes = table_of_records columns (records default_config (strip_bom bytes))
