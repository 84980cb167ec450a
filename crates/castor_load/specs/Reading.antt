-- A reader of records as the list of those that are left.
use Rattle.std.specs.Prelude.{◌≡◌, ◌+◌, ℕ, List, [], Option, Some, None, true, IsSome, length}
use Rattle.std.specs.Borrow.{Bor}
use Rattle.csv.specs.Reading.{Ready, default_config, is_flexible, reader_config, reader_state, reader_trim, records_from, source_of}
use Rattle.csv.specs.declared.parser.State.{State}
use Rattle.csv.specs.declared.reader.Reader.{Reader}
use Rattle.csv.specs.declared.reader.Trim.TheVariants as trim
use Rattle.castor_load.specs.Words.{Record}
use Rattle.castor_load.specs.declared.records.Records.{Records}

-- the bytes that a slice has left, which are always known
abbrev pub bytes_left : Bor (List ℕ) → Option (List ℕ)
bytes_left slice = Some slice.now

-- a reader of a slice has the crate's defaults, takes records of any lengths and has not failed
pub record IsSet (reader : Reader (Bor (List ℕ))) : Type 0 where
  pub config : reader_config reader ≡ default_config
  pub trim : reader_trim reader ≡ trim.None
  pub ready : Ready reader
  pub flexible : is_flexible reader ≡ true
  pub source : IsSome (source_of bytes_left reader)

-- the records of bytes, if these are known, from a state of the parser on
abbrev pub records_of : State → Option (List ℕ) → List Record
records_of state None = []
records_of state (Some bytes) = records_from default_config (length bytes + 1) state bytes

-- the reader has not failed
abbrev pub IsReading : Records → Type 0
IsReading r = IsSet r.reader

-- the records that are left
abbrev pub records_left : Records → List Record
records_left r = records_of (reader_state r.reader) (source_of bytes_left r.reader)
