-- The number of bytes that held data takes under a code.
use Rattle.std.specs.Prelude.{◌≡◌, ℕ, ◌+◌, ◌-◌, ◌*◌, List, [], ◌∷◌, map, take, drop, sum, length, Option, Some, None}
use Rattle.castor_val.specs.declared.value.Value.{Value}
use Rattle.castor_alg.specs.declared.held.Entry.{Entry}
use Rattle.castor_alg.specs.declared.held.Held.{Held, Leaf}
use Rattle.castor_fixed.specs.Fields.{width}
use Rattle.castor_dir.specs.Buckets.{bucket_count}
use Rattle.castor_code.specs.declared.code.Code.{Code}
use Rattle.castor_code.specs.declared.code.Range.{Range}
use Rattle.castor_code.specs.Data.{data_of}
use Rattle.castor_ltype.specs.declared.laid.Laid.{Laid}
use Rattle.castor_ltype.specs.Places.{key_value, nothing, part}

-- the number of bytes of a field for a range
abbrev pub range_bytes : Range → ℕ
range_bytes r = width (r.hi - r.lo)

-- the number of bytes of held data under a code, none where it doesn't fit by its shape
abbrev pub held_size : Code → Held → ℕ
held_size c h = length (data_of c h)

abbrev pub value_held : Option Value → Held
value_held (Some v) = Leaf v
value_held None = nothing

-- the number of bytes of a value
abbrev pub value_size : Code → Option Value → ℕ
value_size c o = held_size c (value_held o)

-- the number of bytes of parts, from a number on
abbrev pub parts_size : ℕ → List Code → Held → ℕ
parts_size i [] h = 0
parts_size i (c ∷ cs) h = held_size c (part i h) + parts_size (i + 1) cs h

-- the number of bytes of the values of a key, from a column on
abbrev pub key_size : ℕ → List Code → Entry → ℕ
key_size j [] e = 0
key_size j (c ∷ cs) e = value_size c (key_value j e) + key_size (j + 1) cs e

-- numbers added at each place
abbrev pub added : List ℕ → List ℕ → List ℕ
added [] ns = []
added (m ∷ ms) [] = []
added (m ∷ ms) (n ∷ ns) = (m + n) ∷ added ms ns

-- the sums of so many numbers, of so many after these, and so on
abbrev pub sums : List ℕ → List ℕ → List ℕ
sums [] sizes = []
sums (n ∷ ns) sizes = sum (take n sizes) ∷ sums ns (drop n sizes)

-- the bytes of the ranges of a list, where one stands
abbrev pub list_frame : Range → Range → Option (List Held) → ℕ
list_frame count body (Some hs) = range_bytes count + range_bytes body
list_frame count body None = 0

-- the bytes of the ranges and of the directory of a hash index, where one stands
abbrev pub hash_frame : Range → Range → Option (List Entry) → ℕ
hash_frame count body (Some es) = (range_bytes count + range_bytes body) + (bucket_count (length es) + 1) * width body.hi
hash_frame count body None = 0

-- the same of an ordered index
abbrev pub ord_frame : Range → Range → Option (List Entry) → ℕ
ord_frame count body (Some es) = (range_bytes count + range_bytes body) + length es * width body.hi
ord_frame count body None = 0

-- the code is this one, and the sizes are those of what stands at the place
pub record IsLaid (c : Code) (hs : List Held) (laid : Laid) : Type 0 where
  pub code : laid.code ≡ c
  pub sizes : laid.sizes.items ≡ map (held_size laid.code) hs
