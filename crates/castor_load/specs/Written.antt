-- Records at the end of a text.
use Rattle.std.specs.Prelude.{◌≡◌, ◌++◌, ◌∷◌, [], ℕ, List, Bool, if◌then◌else◌}
use Rattle.csv.specs.Writing.{default_writer, row_body}
use Rattle.castor_load.specs.Words.{Record}
use Rattle.castor_load.specs.declared.writer.RecordWriter.{RecordWriter}

-- the bytes that are written
abbrev pub text_of : RecordWriter → List ℕ
text_of w = w.text.items

-- a text is these bytes and then these fields of a record that isn't ended
abbrev pub HasWritten : List ℕ → List ℕ → Record → Type 0
HasWritten text before fields = text ≡ before ++ row_body default_writer fields

-- what ends a record: an LF, behind two quotes where the record is blank
abbrev pub record_ending : Bool → List ℕ
record_ending blank = (if blank then 34 ∷ 34 ∷ [] else []) ++ 10 ∷ []
