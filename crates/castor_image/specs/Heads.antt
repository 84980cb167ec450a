-- The heads of images: their bytes, and which are valid.
use Rattle.std.specs.Prelude.{ℕ, nat_lt, nat_le, List, [], ◌∷◌, map, length, Bool, true, false, not, ◌&&◌, ◌||◌}
use Rattle.std.specs.List.{list_all}
use Rattle.std.specs.Str.{bytes_eq}
use Rattle.castor_val.specs.Limits.{most_columns, most_name_bytes, most_params}
use Rattle.castor_val.specs.declared.column.Column.{Column}
use Rattle.castor_val.specs.declared.value.Ty.{Ty}
use Rattle.castor_val.specs.declared.value.Ty.TheVariants.{Int, Bool as Truth, Text}
use Rattle.castor_code.specs.Pieces.{Piece, both, one_after_other}
use Rattle.castor_image.specs.declared.head.Head.{Head}

-- the number of a type
abbrev pub type_number : Ty → ℕ
type_number Int = 0
type_number Truth = 1
type_number Text = 2

-- a byte from one to the other
abbrev pub is_between : ℕ → ℕ → ℕ → Bool
is_between from to b = nat_le from b && nat_le b to

-- a letter of ASCII, or _
abbrev pub is_letter : ℕ → Bool
is_letter b = (is_between 65 90 b || is_between 97 122 b) || is_between 95 95 b

abbrev pub is_digit : ℕ → Bool
is_digit b = is_between 48 57 b

abbrev pub is_word_byte : ℕ → Bool
is_word_byte b = is_letter b || is_digit b

-- a letter or _, then letters, digits and _, with 1 to 64 bytes
abbrev pub is_head_name : List ℕ → Bool
is_head_name [] = false
is_head_name (b ∷ bs) = (is_letter b && list_all is_word_byte bs) && nat_le (length (b ∷ bs)) most_name_bytes

-- a column: the number of its type, the length of its name, and the name
abbrev pub column_piece : Column → Piece
column_piece c = record { fits = is_head_name c.name; bytes = type_number c.ty ∷ length c.name ∷ c.name }

-- columns behind their number
abbrev pub columns_piece : List Column → Piece
columns_piece cs = let p = one_after_other column_piece cs in record { fits = p.fits; bytes = length cs ∷ p.bytes }

-- no name stands twice
abbrev pub are_distinct : List (List ℕ) → Bool
are_distinct [] = true
are_distinct (t ∷ ts) = list_all (λ u. not (bytes_eq t u)) ts && are_distinct ts

abbrev pub names : List Column → List (List ℕ)
names cs = map (λ (c : Column). c.name) cs

-- 0 to 16 parameters, with distinct names
abbrev pub are_params : List Column → Bool
are_params ps = nat_le (length ps) most_params && are_distinct (names ps)

-- 1 to 64 columns
abbrev pub are_head_columns : List Column → Bool
are_head_columns cs = nat_lt 0 (length cs) && nat_le (length cs) most_columns

-- a piece, where a condition holds
abbrev pub only_where : Bool → Piece → Piece
only_where condition p = record { fits = condition && p.fits; bytes = p.bytes }

-- a head: its parameters, then its columns
abbrev pub head_piece : Head → Piece
head_piece h = both (only_where (are_params h.params) (columns_piece h.params)) (only_where (are_head_columns h.columns) (columns_piece h.columns))

abbrev pub is_head : Head → Bool
is_head h = (head_piece h).fits

abbrev pub head_bytes : Head → List ℕ
head_bytes h = (head_piece h).bytes
