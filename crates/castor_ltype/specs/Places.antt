-- What stands at the places below a place.
use Rattle.std.specs.Prelude.{ℕ, ℤ, List, [], ◌∷◌, length, slice_get, slice_index_or, Option, Some, None}
use Rattle.castor_val.specs.declared.value.Value.{Value}
use Rattle.castor_val.specs.declared.value.Value.TheVariants.{Int, Bool as Truth, Text}
use Rattle.castor_alg.specs.declared.held.Entry.{Entry}
use Rattle.castor_alg.specs.declared.held.Held.{Held, Parts}
use Rattle.castor_code.specs.LayoutMeaning.{all_in}
use Rattle.castor_code.specs.Shapes.{inner_of, keyed_of, parts_of, rows_of}

-- held data of no value, which takes no byte under any code. It stands for a part that isn't there: held data of
-- another shape than that of its relation
abbrev pub nothing : Held
nothing = Parts []

abbrev pub held_or_nothing : Option Held → Held
held_or_nothing (Some h) = h
held_or_nothing None = nothing

-- the part with a number, from 0
abbrev pub part : ℕ → Held → Held
part i h = slice_index_or (all_in (parts_of h)) i nothing

-- what the operand holds
abbrev pub inner : Held → Held
inner h = held_or_nothing (inner_of h)

-- the children of a list
abbrev pub children : Held → List Held
children h = all_in (rows_of h)

-- the entries of an index
abbrev pub entries : Held → List Entry
entries h = all_in (keyed_of h)

-- the value of a key in a column, from 0
abbrev pub key_value : ℕ → Entry → Option Value
key_value j e = slice_get e.key j

-- the int that stands there, if one does
abbrev pub int_in : Option Value → List ℤ
int_in (Some (Int z)) = z ∷ []
int_in (Some (Truth b)) = []
int_in (Some (Text t)) = []
int_in None = []

-- the length of the text that stands there, in bytes
abbrev pub text_length_in : Option Value → List ℕ
text_length_in (Some (Int z)) = []
text_length_in (Some (Truth b)) = []
text_length_in (Some (Text t)) = length t ∷ []
text_length_in None = []
