-- The text of a reply.
use Rattle.std.specs.Prelude.{ℕ, List, ◌++◌, Bool, ◌||◌, codes, length, map, if◌then◌else◌}
use Rattle.std.specs.Fmt.{decimal}
use Rattle.std.specs.List.{flat_map}
use Rattle.castor_val.specs.declared.column.Column.{Column}
use Rattle.castor_val.specs.declared.fault.Faults.{Faults}
use Rattle.castor_val.specs.declared.row.Row.{Row}
use Rattle.castor_val.specs.Fields.{value_text}
use Rattle.castor_alg.specs.declared.out.Out.{Out}
use Rattle.castor_load.specs.Rows.{names_of}
use Rattle.castor_load.specs.Words.{default_writer, row_text}
use Rattle.castor_cli.specs.Faults.{kinds_text}

abbrev pub fault_line : Faults → List ℕ
fault_line f = codes "fault " ++ kinds_text f ++ codes "\n"

-- the record of a row
abbrev pub record_of : Row → List ℕ
record_of row = row_text default_writer (map value_text row)

-- the record of the columns' names
abbrev pub names_record : List Column → List ℕ
names_record columns = row_text default_writer (names_of columns)

-- the head of a reply of n rows
abbrev pub head_text : List Column → ℕ → List ℕ
head_text columns n = codes "rows " ++ decimal n ++ codes "\n" ++ names_record columns

-- the number of rows, the names of the columns and the rows
abbrev pub rows_text : List Column → List Row → List ℕ
rows_text columns rows = head_text columns (length rows) ++ flat_map record_of rows

abbrev pub has_fault : Faults → Bool
has_fault f = f.division || f.overflow || f.norows

-- the faults where there are some, else the rows
abbrev pub reply_text : List Column → Out → List ℕ
reply_text columns out = if has_fault out.faults then fault_line out.faults else rows_text columns out.rows

-- what a line that isn't accepted gets
abbrev pub bad_parameters : List ℕ
bad_parameters = codes "bad parameters\n"
