-- The least ranges that hold what stands at a place.
use Rattle.std.specs.Prelude.{ℕ, ℤ, pos, min, max, List, [], ◌∷◌, fold, if◌then◌else◌}
use Rattle.std.specs.Int.Signed.{lt_z}
use Rattle.castor_code.specs.declared.code.Code.{Code, Int, Text}
use Rattle.castor_code.specs.declared.code.Range.{Range}

-- from the least of the numbers to the greatest, and from 0 to 0 where there are none
abbrev pub least_range : List ℕ → Range
least_range [] = record { lo = 0; hi = 0 }
least_range (n ∷ ns) = record { lo = fold min n ns; hi = fold max n ns }

abbrev pub lesser : ℤ → ℤ → ℤ
lesser a b = if lt_z b a then b else a

abbrev pub greater : ℤ → ℤ → ℤ
greater a b = if lt_z a b then b else a

-- the code of ints: from the least to the greatest, and from 0 to 0 where there are none
abbrev pub int_code : List ℤ → Code
int_code [] = Int (pos 0) (pos 0)
int_code (z ∷ zs) = Int (fold lesser z zs) (fold greater z zs)

-- the code of texts, by their lengths in bytes
abbrev pub text_code : List ℕ → Code
text_code lengths = Text (least_range lengths).lo (least_range lengths).hi
