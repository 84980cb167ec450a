-- The bytes of indexes: entries behind a directory that says where they stand.
use Rattle.std.specs.Prelude.{ℕ, ◌+◌, List, [], ◌∷◌, ◌++◌, map, take, length, Bool, true, ◌&&◌, Option, Some, None}
use Rattle.std.specs.List.{flat_map, list_all, range_with_len}
use Rattle.castor_alg.specs.declared.held.Entry.{Entry}
use Rattle.castor_alg.specs.declared.held.Held.{Held, Leaf}
use Rattle.castor_alg.specs.Sorting.{row_lt}
use Rattle.castor_fixed.specs.Fields.{field}
use Rattle.castor_dir.specs.Buckets.{bucket, bucket_count, by_bucket, places}
use Rattle.castor_dir.specs.Hashing.{hash_of}
use Rattle.castor_code.specs.declared.code.Range.{Range}
use Rattle.castor_code.specs.Pieces.{Piece, no_piece, both, one_after_other, side_by_side, behind_number}

-- an entry: the values of its key in order, then its child
abbrev pub entry_piece : List (Held → Piece) → (Held → Piece) → Entry → Piece
entry_piece ks kid e = both (side_by_side ks (map Leaf e.key)) (kid e.kid)

-- each is before all later ones
abbrev pub rises : {X : Type 0} → (X → X → Bool) → List X → Bool
rises before [] = true
rises before (x ∷ xs) = list_all (before x) xs && rises before xs

-- entries by their keys
abbrev pub key_lt : Entry → Entry → Bool
key_lt x y = row_lt x.key y.key

-- each key is before all later ones, so that no two are equal
abbrev pub ascending : List Entry → Bool
ascending es = rises key_lt es

-- the bucket of an entry, of so many
abbrev pub bucket_of : ℕ → Entry → ℕ
bucket_of buckets e = bucket (hash_of e.key) buckets

-- the entries of the first buckets, by bucket and then by key
abbrev pub in_buckets : ℕ → List Entry → List Entry
in_buckets first es = by_bucket (bucket_of (bucket_count (length es))) first es

-- all entries by bucket and then by key
abbrev pub bucketed : List Entry → List Entry
bucketed es = in_buckets (bucket_count (length es)) es

-- the number of bytes of entries
abbrev pub size : (Entry → Piece) → List Entry → ℕ
size write es = length (one_after_other write es).bytes

-- where the entries of each bucket begin, and last where those of the last bucket end
abbrev pub bucket_starts : (Entry → Piece) → List Entry → List ℕ
bucket_starts write es = map (λ b. size write (in_buckets b es)) (range_with_len 0 (bucket_count (length es) + 1))

-- where each entry begins
abbrev pub entry_starts : (Entry → Piece) → List Entry → List ℕ
entry_starts write es = map (λ i. size write (take i es)) (places (length es))

-- fields for offsets from the first entry, wide enough for the greatest body length
abbrev pub offset_fields : Range → List ℕ → List ℕ
offset_fields body offsets = flat_map (field body.hi) offsets

-- an index: a field for the number of entries, one for the number of their bytes, the offsets, then the entries
abbrev pub index_piece : Range → Range → (Entry → Piece) → List Entry → List ℕ → List Entry → Piece
index_piece count body write es offsets data_read =
    let p = one_after_other write data_read in
    behind_number count (length es) (behind_number body (length p.bytes) (record { fits = ascending es && p.fits; bytes = offset_fields body offsets ++ p.bytes }))

abbrev pub hash_piece : Range → Range → (Entry → Piece) → Option (List Entry) → Piece
hash_piece count body write (Some es) = index_piece count body write es (bucket_starts write es) (bucketed es)
hash_piece count body write None = no_piece

abbrev pub ord_piece : Range → Range → (Entry → Piece) → Option (List Entry) → Piece
ord_piece count body write (Some es) = index_piece count body write es (entry_starts write es) es
ord_piece count body write None = no_piece
