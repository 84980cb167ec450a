-- The bytes of a key, and the hash of them.
use Rattle.std.specs.Prelude.{ℕ, ◌*◌, ◌%◌, ◌^◌, List, [], ◌∷◌, ◌++◌, fold, bit_xor, true, false}
use Rattle.std.specs.Int.{cast_unsigned, to_le_bytes, w64}
use Rattle.std.specs.List.{flat_map}
use Rattle.castor_val.specs.declared.row.Row.{Row}
use Rattle.castor_val.specs.declared.value.Value.{Value}
use Rattle.castor_val.specs.declared.value.Value.TheVariants.{Int, Bool as Truth, Text}

-- the bytes of a value of a key: an int as 8 bytes of two's complement, the least first, a bool as
-- one byte, 0 or 1, and a text as its bytes and then ff, which no text has
abbrev pub value_bytes : Value → List ℕ
value_bytes (Int z) = to_le_bytes w64 (cast_unsigned w64 z)
value_bytes (Truth false) = 0 ∷ []
value_bytes (Truth true) = 1 ∷ []
value_bytes (Text t) = t ++ 255 ∷ []

-- the bytes of a key: those of its values in order
abbrev pub key_bytes : Row → List ℕ
key_bytes key = flat_map value_bytes key

-- FNV-1a with 64 bits: the hash after one byte more
abbrev pub fnv_next : ℕ → ℕ → ℕ
fnv_next hash byte = (bit_xor hash byte * 1099511628211) % 2 ^ 64

-- FNV-1a with 64 bits: the hash of bytes
abbrev pub fnv_hash : List ℕ → ℕ
fnv_hash bytes = fold fnv_next 14695981039346656037 bytes

-- the hash of a key
abbrev pub hash_of : Row → ℕ
hash_of key = fnv_hash (key_bytes key)
