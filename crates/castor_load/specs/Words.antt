-- The words of `csv` for the records of a text and for the text of a record.
use Rattle.std.specs.Prelude.{ℕ, List}
pub use Rattle.csv.specs.Reading.{default_config, records, strip_bom}
pub use Rattle.csv.specs.Records.{fields_of}
pub use Rattle.csv.specs.Writing.{default_writer, row_text}

-- a record is the list of its fields, each a list of bytes
abbrev pub Record : Type 0
Record = List (List ℕ)
