-- Numbers in fields of the least width.
use Rattle.std.specs.Prelude.{◌≡◌, ℕ, ◌^◌, ◌≤◌, ℤ, pos, ◌-ℤ◌, ◌<ℤ◌, nat_le, List, ◌++◌, take, drop, ◌&&◌, if◌then◌else◌, Option, Some, None}
use Rattle.std.specs.Int.{int_gap}
use Rattle.std.specs.Str.{bytes_eq}
use Rattle.byteorder.specs.Endian.{little_bytes, little_number}
use Rattle.castor_fixed.specs.Digits.{digit_count}

-- the width of the fields for the numbers from 0 to most, in bytes
abbrev pub width : ℕ → ℕ
width most = digit_count 256 most

-- the width of the fields for the whole numbers from lo to hi, in bytes
abbrev pub range_width : ℤ → ℤ → ℕ
range_width lo hi = width (int_gap lo hi)

-- w is the fewest bytes, at most 8, whose numbers reach from lo to hi
pub record IsFewestBytes (lo hi : ℤ) (w : ℕ) : Type 0 where
  pub most : w ≤ 8
  pub reach : (hi -ℤ lo) <ℤ pos (256 ^ w)
  pub least : (v : ℕ) → (hi -ℤ lo) <ℤ pos (256 ^ v) → w ≤ v

-- the field of n, for the numbers from 0 to most
abbrev pub field : ℕ → ℕ → List ℕ
field most n = little_bytes (width most) n

-- the field of z, for the whole numbers from lo to hi: that of z less lo
abbrev pub range_field : ℤ → ℤ → ℤ → List ℕ
range_field lo hi z = field (int_gap lo hi) (int_gap lo z)

-- the number from 0 to most whose field comes first, if one does, and the bytes after it
abbrev pub number : ℕ → List ℕ → Option (ℕ × List ℕ)
number most bytes =
    let n = little_number (width most) bytes in
    if nat_le n most && bytes_eq (field most n) (take (width most) bytes) then Some (n, drop (width most) bytes) else None

-- a field is read as its number, whatever comes after it, and what is read as a number is its field
pub record ReadsFields : Type 0 where
  pub again : (most n : ℕ) (rest : List ℕ) → n ≤ most → number most (field most n ++ rest) ≡ Some (n, rest)
  pub taken : (most n : ℕ) (bytes rest : List ℕ) → number most bytes ≡ Some (n, rest) → (n ≤ most) × (bytes ≡ field most n ++ rest)
