-- Lines that `csv` reads as they stand.
use Rattle.std.specs.Prelude.{◌==◌, ◌&&◌, ◌||◌, ℕ, List, [], ◌∷◌, Option, Some, None, Bool, false, not, length}
use Rattle.std.specs.Borrow.{Bor}
use Rattle.std.specs.List.{list_any, slice_split}
use Rattle.csv.specs.Reading.{is_bom}
use Rattle.castor_load.specs.Words.{Record}
use Rattle.castor_load.specs.declared.fields.Fields.{Fields}

-- a quote, a CR or an LF, which mean something to `csv` wherever they stand
abbrev pub is_special : ℕ → Bool
is_special b = (b == 34) || (b == 13) || (b == 10)

-- the byte between two fields
abbrev pub is_comma : ℕ → Bool
is_comma b = b == 44

-- whether a text begins with a byte order mark
abbrev pub has_mark : List ℕ → Bool
has_mark [] = false
has_mark (a ∷ []) = false
has_mark (a ∷ b ∷ []) = false
has_mark (a ∷ b ∷ c ∷ rest) = is_bom a b c

-- a plain line has a byte, no quote, no CR and no LF, and no byte order mark at its start
abbrev pub is_plain : List ℕ → Bool
is_plain line = not (length line == 0) && not (has_mark line) && not (list_any is_special line)

-- the fields between the commas of a line, one more than it has commas
abbrev pub fields_between : List ℕ → Record
fields_between line = slice_split is_comma line

-- the fields between the commas of what is left of a line, if anything is
abbrev pub fields_of_rest : Option (Bor (List ℕ)) → Record
fields_of_rest None = []
fields_of_rest (Some rest) = fields_between rest.now

-- the fields that are left
abbrev pub fields_left : Fields → Record
fields_left fields = fields_of_rest fields.rest
