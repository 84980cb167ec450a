-- The values that a question line gives to parameters.
use Rattle.std.specs.Prelude.{ℕ, List, [], ◌∷◌, Option, Some, None}
use Rattle.std.specs.Result.{result_ok}
use Rattle.csv.specs.Reading.{default_config, records, strip_bom}
use Rattle.castor_val.specs.Columns.{types_of}
use Rattle.castor_val.specs.declared.column.Column.{Column}
use Rattle.castor_val.specs.declared.row.Row.{Row}
use Rattle.castor_load.specs.Rows.{row_of}
use Rattle.castor_load.specs.Words.{Record}

-- the values of records: none where there are no parameters, else those of the one record
abbrev pub values_of_records : List Column → List Record → Option Row
values_of_records [] [] = Some []
values_of_records (param ∷ params) [] = None
values_of_records params (fields ∷ []) = result_ok (row_of 0 (types_of params) fields)
values_of_records params (fields ∷ next ∷ more) = None

-- the values of a line, if it is accepted
abbrev pub line_values : List Column → List ℕ → Option Row
line_values params line = values_of_records params (records default_config (strip_bom line))
