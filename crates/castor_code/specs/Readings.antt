-- Reading from the front of bytes.
use Rattle.std.specs.Prelude.{ℕ, zero, suc, ℤ, pos, ◌+◌, ◌-◌, ◌*◌, ◌+ℤ◌, nat_le, List, [], ◌∷◌, map, take, drop, length, ◌==◌, Bool, true, false, ◌&&◌, Option, Some, None}
use Rattle.std.specs.Int.{int_gap}
use Rattle.std.specs.Str.{bytes_eq, is_utf8}
use Rattle.castor_val.specs.declared.value.Value.{Value}
use Rattle.castor_val.specs.declared.value.Value.TheVariants.{Int, Bool as Truth, Text}
use Rattle.castor_alg.specs.declared.held.Entry.{Entry}
use Rattle.castor_alg.specs.declared.held.Held.{Held, Leaf, Parts, Rows, Keyed, Inner}
use Rattle.castor_alg.specs.Sorting.{sorted}
use Rattle.castor_fixed.specs.Fields.{width, number}
use Rattle.castor_dir.specs.Buckets.{bucket_count}
use Rattle.castor_code.specs.declared.code.Range.{Range}
use Rattle.castor_code.specs.Directories.{key_lt}
use Rattle.castor_code.specs.Pieces.{Piece, within_int, within}
use Rattle.castor_code.specs.Shapes.{leaf_of}
use Rattle.castor_code.specs.Steps.{next, when, many}

-- what is read from the front, with the bytes after it
abbrev pub Read : Type 0 → Type 0
Read X = Option (X × List ℕ)

-- how held data is read
abbrev pub Reader : Type 0
Reader = List ℕ → Read Held

-- a number of a range
abbrev pub ranged : Range → List ℕ → Read ℕ
ranged r bs = next (number (r.hi - r.lo) bs) (λ n rest. when (within r (r.lo + n)) (r.lo + n, rest))

abbrev pub int_read : ℤ → ℤ → Reader
int_read lo hi bs = next (number (int_gap lo hi) bs) (λ n rest. when (within_int lo hi (lo +ℤ pos n)) (Leaf (Int (lo +ℤ pos n)), rest))

abbrev pub bool_read : Reader
bool_read [] = None
bool_read (zero ∷ rest) = Some (Leaf (Truth false), rest)
bool_read (suc zero ∷ rest) = Some (Leaf (Truth true), rest)
bool_read (suc (suc b) ∷ rest) = None

abbrev pub text_read : Range → Reader
text_read lengths bs = next (ranged lengths bs) (λ n rest. when (nat_le n (length rest) && is_utf8 (take n rest)) (Leaf (Text (take n rest)), drop n rest))

-- one part for each kid
abbrev pub in_order : List Reader → List ℕ → Read (List Held)
in_order [] bs = Some ([], bs)
in_order (k ∷ ks) bs = next (k bs) (λ h rest. next (in_order ks rest) (λ hs more. Some (h ∷ hs, more)))

abbrev pub parts_read : List Reader → Reader
parts_read ks bs = next (in_order ks bs) (λ hs rest. Some (Parts hs, rest))

abbrev pub inner_read : Reader → Reader
inner_read kid bs = next (kid bs) (λ h rest. Some (Inner h, rest))

-- the children take just the bytes that the body length says
abbrev pub list_read : Range → Range → Reader → Reader
list_read count body kid bs = next (ranged count bs) (λ n b. next (ranged body b) (λ len c. next (many n kid c) (λ hs rest. when (length c == len + length rest) (Rows hs, rest))))

abbrev pub value_in : Option Value → Value
value_in (Some v) = v
value_in None = Truth false

-- the values of a key, then a child
abbrev pub entry_read : List Reader → Reader → List ℕ → Read Entry
entry_read ks kid bs = next (in_order ks bs) (λ vs rest. next (kid rest) (λ h more. Some (record { key = map (λ v. value_in (leaf_of v)) vs; kid = h }, more)))

-- the bytes begin with these
abbrev pub begins : List ℕ → List ℕ → Bool
begins front bs = bytes_eq front (take (length front) bs)

-- what was read, where it fits and the bytes begin with its data
abbrev pub confirmed : (Held → Piece) → Held → Reader
confirmed write h bs = when ((write h).fits && begins (write h).bytes bs) (h, drop (length (write h).bytes) bs)

-- an index, whose entries stand behind so many offsets and are put in the order of their keys
abbrev pub index_read : Range → Range → (ℕ → ℕ) → (List ℕ → Read Entry) → (Held → Piece) → Reader
index_read count body offsets one write bs =
    next (ranged count bs) (λ n b. next (ranged body b) (λ len c. next (many n one (drop (offsets n * width body.hi) c)) (λ es rest. confirmed write (Keyed (sorted key_lt es)) bs)))

-- the offsets of a hash index: one for each bucket, and one more
abbrev pub hash_offsets : ℕ → ℕ
hash_offsets n = bucket_count n + 1

-- the offsets of an ordered index: one for each entry
abbrev pub ord_offsets : ℕ → ℕ
ord_offsets n = n
