-- Pieces of data: whether what is held fits, and the bytes that it is stored as.
use Rattle.std.specs.Prelude.{ℕ, ◌-◌, ℤ, nat_le, List, [], ◌∷◌, ◌++◌, length, Bool, true, false, not, ◌&&◌, if◌then◌else◌, Option, Some, None}
use Rattle.std.specs.Int.Signed.{lt_z}
use Rattle.std.specs.Str.{is_utf8}
use Rattle.castor_val.specs.declared.value.Value.{Value}
use Rattle.castor_val.specs.declared.value.Value.TheVariants.{Int, Bool as Truth, Text}
use Rattle.castor_alg.specs.declared.held.Held.{Held}
use Rattle.castor_fixed.specs.Fields.{field, range_field}
use Rattle.castor_code.specs.declared.code.Range.{Range}

-- whether what is held fits, and its bytes
pub record Piece : Type 0 where
  pub fits : Bool
  pub bytes : List ℕ

-- what fits nowhere
abbrev pub no_piece : Piece
no_piece = record { fits = false; bytes = [] }

-- what fits without a byte
abbrev pub empty_piece : Piece
empty_piece = record { fits = true; bytes = [] }

-- one piece, and then the other
abbrev pub both : Piece → Piece → Piece
both p q = record { fits = p.fits && q.fits; bytes = p.bytes ++ q.bytes }

-- the pieces of a list of things, in order
abbrev pub one_after_other : {X : Type 0} → (X → Piece) → List X → Piece
one_after_other write [] = empty_piece
one_after_other write (x ∷ xs) = both (write x) (one_after_other write xs)

abbrev pub at_most_int : ℤ → ℤ → Bool
at_most_int a b = not (lt_z b a)

abbrev pub within_int : ℤ → ℤ → ℤ → Bool
within_int lo hi z = at_most_int lo z && at_most_int z hi

abbrev pub within : Range → ℕ → Bool
within r n = nat_le r.lo n && nat_le n r.hi

-- the field of a number of a range
abbrev pub ranged_field : Range → ℕ → List ℕ
ranged_field r n = field (r.hi - r.lo) (n - r.lo)

-- a piece behind a field for a number, which has to be within the range
abbrev pub behind_number : Range → ℕ → Piece → Piece
behind_number r n p = record { fits = within r n && p.fits; bytes = ranged_field r n ++ p.bytes }

-- an int: one field for the range
abbrev pub int_piece : ℤ → ℤ → Option Value → Piece
int_piece lo hi (Some (Int z)) = record { fits = within_int lo hi z; bytes = range_field lo hi z }
int_piece lo hi (Some (Truth b)) = no_piece
int_piece lo hi (Some (Text t)) = no_piece
int_piece lo hi None = no_piece

-- a bool: one byte, 0 or 1
abbrev pub bool_piece : Option Value → Piece
bool_piece (Some (Int z)) = no_piece
bool_piece (Some (Truth b)) = record { fits = true; bytes = (if b then 1 else 0) ∷ [] }
bool_piece (Some (Text t)) = no_piece
bool_piece None = no_piece

-- a text: a field for its length, then its bytes of UTF-8
abbrev pub text_piece : Range → Option Value → Piece
text_piece lengths (Some (Int z)) = no_piece
text_piece lengths (Some (Truth b)) = no_piece
text_piece lengths (Some (Text t)) = behind_number lengths (length t) (record { fits = is_utf8 t; bytes = t })
text_piece lengths None = no_piece

-- the parts in order, of which there has to be one for each kid
abbrev pub side_by_side : List (Held → Piece) → List Held → Piece
side_by_side [] [] = empty_piece
side_by_side [] (h ∷ hs) = no_piece
side_by_side (k ∷ ks) [] = no_piece
side_by_side (k ∷ ks) (h ∷ hs) = both (k h) (side_by_side ks hs)

abbrev pub parts_piece : List (Held → Piece) → Option (List Held) → Piece
parts_piece ks (Some hs) = side_by_side ks hs
parts_piece ks None = no_piece

abbrev pub inner_piece : (Held → Piece) → Option Held → Piece
inner_piece kid (Some h) = kid h
inner_piece kid None = no_piece

-- children: a field for their number, one for the number of their bytes, then the children
abbrev pub children_piece : Range → Range → ℕ → Piece → Piece
children_piece count body n p = behind_number count n (behind_number body (length p.bytes) p)

abbrev pub list_piece : Range → Range → (Held → Piece) → Option (List Held) → Piece
list_piece count body kid (Some hs) = children_piece count body (length hs) (one_after_other kid hs)
list_piece count body kid None = no_piece
