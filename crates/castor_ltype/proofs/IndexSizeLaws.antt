-- The sizes of indexes, over the sizes of their entries.
use Rattle.std.proofs.Common.{◌≡◌, ◌∙◌, ℕ, zero, suc, ◌+◌, ◌*◌, ◌-◌, ◌<◌, eqb, nat_lt, List, [], ◌∷◌, ◌++◌, map, filter, length, length-append, sum, slice_get, ap, sym, refl, subst, Bool, true, false, ◌&&◌, ◌||◌, if◌then◌else◌, Option, Some, None, arith}
use Rattle.std.proofs.lemmas.Bool.{eqb-true, eqb-false, le-ltb, lt-ltb, ltb-false, ltb-true}
use Rattle.std.proofs.lemmas.List.{map-append}
use Rattle.std.proofs.lemmas.List.FromFn.{length-map-range_with_len}
use Rattle.std.proofs.lemmas.List.Sums.{sum_by-append, sum_by-cons}
use Rattle.std.proofs.lemmas.Nat.{pow_pos}
use Rattle.castor_val.specs.declared.row.Row.{Row}
use Rattle.castor_val.specs.declared.value.Value.{Value}
use Rattle.castor_alg.specs.declared.expr.Expr.{Expr}
use Rattle.castor_alg.specs.declared.held.Entry.{Entry}
use Rattle.castor_alg.specs.declared.held.Held.{Held, Leaf}
use Rattle.castor_alg.specs.declared.rel.Bound.{Bound}
use Rattle.castor_fixed.specs.Fields.{field, width}
use Rattle.castor_fixed.proofs.FieldLaws.{length-field}
use Rattle.castor_dir.specs.Buckets.{bucket, bucket_count, by_bucket}
use Rattle.castor_dir.proofs.DirectoryLaws.{by_bucket-next}
use Rattle.castor_code.specs.declared.code.Code.{Code}
use Rattle.castor_code.specs.declared.code.Code as C
use Rattle.castor_code.specs.declared.code.Range.{Range}
use Rattle.castor_code.specs.Directories.{bucket_of, bucket_starts, bucketed, entry_piece, entry_starts, hash_piece, index_piece, offset_fields, ord_piece, size}
use Rattle.castor_code.specs.LayoutMeaning.{all_in}
use Rattle.castor_code.specs.Pieces.{Piece, one_after_other, ranged_field, side_by_side}
use Rattle.castor_code.specs.Shapes.{keyed_of}
use Rattle.castor_ltype.specs.Generation.{kids}
use Rattle.castor_ltype.specs.Places.{entries, key_value}
use Rattle.castor_ltype.specs.Sizes.{added, hash_frame, held_size, key_size, ord_frame, range_bytes, value_size}
use Rattle.castor_ltype.proofs.PieceLaws.{nothing_size, piece-Hash, piece-Ord, writing, writing_all}
use Rattle.castor_ltype.proofs.SizeLaws.{along_size}

abbrev bytes_in : Piece → ℕ
bytes_in p = length p.bytes

lt_more : (n b : ℕ) → nat_lt n (b + 1) ≡ (nat_lt n b || eqb n b)
lt_more n b = by (nat_lt n b) (eqb n b) refl refl
  where
    by : (s t : Bool) → nat_lt n b ≡ s → eqb n b ≡ t → nat_lt n (b + 1) ≡ (s || t)
    by true t l e = let below = ltb-true n b l in lt-ltb n (b + 1) (omega arith)
    by false true l e = let same = eqb-true n b e in lt-ltb n (b + 1) (omega arith)
    by false false l e = let above = ltb-false n b l in let other = eqb-false n b e in le-ltb n (b + 1) (omega arith)

lt_apart : (n b : ℕ) → (nat_lt n b && eqb n b) ≡ false
lt_apart n b = by (nat_lt n b) (eqb n b) refl refl
  where
    by : (s t : Bool) → nat_lt n b ≡ s → eqb n b ≡ t → (s && t) ≡ false
    by true true l e = let below = ltb-true n b l in let same = eqb-true n b e in absurd (omega arith)
    by true false l e = refl
    by false t l e = refl

-- what stands in buckets, summed up
module _ {X : Type 0} (k f : X → ℕ) where
  abbrev kept : (X → Bool) → List X → ℕ
  kept p xs = sum (map f (filter p xs))

  summed : (x : X) (xs : List X) → sum (map f (x ∷ xs)) ≡ f x + sum (map f xs)
  summed x xs = sum_by-cons (λ (n : ℕ). n) (f x) (map f xs)

  appended : (xs ys : List X) → sum (map f (xs ++ ys)) ≡ sum (map f xs) + sum (map f ys)
  appended xs ys = ap sum (map-append f xs ys) ∙ sum_by-append (λ (n : ℕ). n) (map f xs) (map f ys)

  kept_at : (x : X) (us vs ws : List X) (r s t : Bool) → r ≡ (s || t) → (s && t) ≡ false → sum (map f us) ≡ sum (map f vs) + sum (map f ws)
      → sum (map f (if r then x ∷ us else us)) ≡ sum (map f (if s then x ∷ vs else vs)) + sum (map f (if t then x ∷ ws else ws))
  kept_at x us vs ws true true true is apart rest = cc
  kept_at x us vs ws true true false is apart rest = let u = summed x us in let v = summed x vs in omega arith
  kept_at x us vs ws true false true is apart rest = let u = summed x us in let w = summed x ws in omega arith
  kept_at x us vs ws true false false is apart rest = cc
  kept_at x us vs ws false true t is apart rest = cc
  kept_at x us vs ws false false true is apart rest = cc
  kept_at x us vs ws false false false is apart rest = rest

  kept_more : (b : ℕ) (xs : List X) → kept (λ x. nat_lt (k x) (b + 1)) xs ≡ kept (λ x. nat_lt (k x) b) xs + kept (λ x. eqb (k x) b) xs
  kept_more b [] = refl
  kept_more b (x ∷ xs) = kept_at x _ _ _ (nat_lt (k x) (b + 1)) (nat_lt (k x) b) (eqb (k x) b) (lt_more (k x) b) (lt_apart (k x) b) (kept_more b xs)

  kept_none : (xs : List X) → kept (λ x. nat_lt (k x) 0) xs ≡ 0
  kept_none [] = refl
  kept_none (x ∷ xs) = ap (λ (t : Bool). sum (map f (if t then x ∷ filter (λ x. nat_lt (k x) 0) xs else filter (λ x. nat_lt (k x) 0) xs))) (le-ltb (k x) 0 (omega arith)) ∙ kept_none xs

  first_buckets : (b : ℕ) (xs : List X) → sum (map f (by_bucket k b xs)) ≡ kept (λ x. nat_lt (k x) b) xs
  first_buckets zero xs = sym (kept_none xs)
  first_buckets (suc b) xs =
      let one : b + 1 ≡ suc b = omega arith in
      subst (λ n. sum (map f (by_bucket k n xs)) ≡ kept (λ x. nat_lt (k x) n) xs) one
      (ap (λ (ys : List X). sum (map f ys)) (by_bucket-next k xs b) ∙ appended (by_bucket k b xs) (filter (λ x. eqb (k x) b) xs)
      ∙ ap (λ n. n + kept (λ x. eqb (k x) b) xs) (first_buckets b xs) ∙ sym (kept_more b xs))

  all_kept : (b : ℕ) (xs : List X) → ((x : X) → nat_lt (k x) b ≡ true) → filter (λ x. nat_lt (k x) b) xs ≡ xs
  all_kept b [] below = refl
  all_kept b (x ∷ xs) below = ap (λ (t : Bool). if t then x ∷ filter (λ x. nat_lt (k x) b) xs else filter (λ x. nat_lt (k x) b) xs) (below x) ∙ ap (λ ys. x ∷ ys) (all_kept b xs below)

  pub sum-by_bucket : (b : ℕ) (xs : List X) → ((x : X) → nat_lt (k x) b ≡ true) → sum (map f (by_bucket k b xs)) ≡ sum (map f xs)
  sum-by_bucket b xs below = first_buckets b xs ∙ ap (λ (ys : List X). sum (map f ys)) (all_kept b xs below)

rest_below : (n m : ℕ) → 0 < m → bucket n m < m
rest_below n m some = omega arith

some_buckets : (n : ℕ) → 0 < bucket_count n
some_buckets n = pow_pos _

in_range : (n : ℕ) (e : Entry) → nat_lt (bucket_of (bucket_count n) e) (bucket_count n) ≡ true
in_range n e = lt-ltb _ _ (rest_below _ (bucket_count n) (some_buckets n))

-- the entries take as many bytes in the order of their buckets
pub bucketed_size : (write : Entry → Piece) (es : List Entry) → length (one_after_other write (bucketed es)).bytes ≡ size write es
bucketed_size write es =
    sym (along_size write (bucketed es))
    ∙ sum-by_bucket (bucket_of (bucket_count (length es))) (λ (e : Entry). length (write e).bytes) (bucket_count (length es)) es (in_range (length es))
    ∙ along_size write es

length-offsets : (body : Range) (offsets : List ℕ) → length (offset_fields body offsets) ≡ length offsets * width body.hi
length-offsets body [] = none (width body.hi)
  where
    none : (w : ℕ) → 0 ≡ 0 * w
    none w = omega arith
length-offsets body (x ∷ xs) =
    let one = length-field body.hi x in
    let rest = length-offsets body xs in
    let cut = length-append (field body.hi x) (offset_fields body xs) in
    cut ∙ (λ i. one i + rest i) ∙ more (width body.hi) (length xs)
  where
    more : (w n : ℕ) → w + n * w ≡ suc n * w
    more w n = omega arith

index_size : (count body : Range) (write : Entry → Piece) (es : List Entry) (offsets : List ℕ) (written : List Entry) (n : ℕ) → length offsets ≡ n → length (one_after_other write written).bytes ≡ size write es
    → ((range_bytes count + range_bytes body) + n * width body.hi) + size write es ≡ length (index_piece count body write es offsets written).bytes
index_size count body write es offsets written n many same =
    let p = one_after_other write written in
    let directory = length-offsets body offsets ∙ ap (λ m. m * width body.hi) many in
    let front = length-append (ranged_field count (length es)) (ranged_field body (length p.bytes) ++ (offset_fields body offsets ++ p.bytes)) in
    let middle = length-append (ranged_field body (length p.bytes)) (offset_fields body offsets ++ p.bytes) in
    let rest = length-append (offset_fields body offsets) p.bytes in
    let first : length (ranged_field count (length es)) ≡ range_bytes count = length-field (count.hi - count.lo) (length es - count.lo) in
    let second : length (ranged_field body (length p.bytes)) ≡ range_bytes body = length-field (body.hi - body.lo) (length p.bytes - body.lo) in
    sym (front ∙ (λ i. first i + (middle ∙ (λ j. second j + (rest ∙ (λ l. directory l + same l)) j)) i) ∙ regrouped (range_bytes count) (range_bytes body) (n * width body.hi) (size write es))
  where
    regrouped : (a b c d : ℕ) → a + (b + (c + d)) ≡ ((a + b) + c) + d
    regrouped a b c d = omega arith

hash_size_in : (count body : Range) (write : Entry → Piece) (o : Option (List Entry)) → hash_frame count body o + size write (all_in o) ≡ length (hash_piece count body write o).bytes
hash_size_in count body write (Some es) =
    index_size count body write es (bucket_starts write es) (bucketed es) (bucket_count (length es) + 1) (length-map-range_with_len _ 0 (bucket_count (length es) + 1)) (bucketed_size write es)
hash_size_in count body write None = refl

ord_size_in : (count body : Range) (write : Entry → Piece) (o : Option (List Entry)) → ord_frame count body o + size write (all_in o) ≡ length (ord_piece count body write o).bytes
ord_size_in count body write (Some es) = index_size count body write es (entry_starts write es) es (length es) (length-map-range_with_len _ 0 (length es)) refl
ord_size_in count body write None = refl

pub size-Hash : (count body : Range) (key : List Code) (c : Code) (es : List Expr) (h : Held) → hash_frame count body (keyed_of h) + size (entry_piece (writing_all key) (writing c)) (entries h) ≡ held_size (C.Hash count body key c es) h
size-Hash count body key c es h = hash_size_in count body (entry_piece (writing_all key) (writing c)) (keyed_of h) ∙ sym (ap bytes_in (piece-Hash h count body key c es))

pub size-Ord : (count body : Range) (key c : Code) (lo hi : Bound) (h : Held) → ord_frame count body (keyed_of h) + size (entry_piece (writing_all (key ∷ [])) (writing c)) (entries h) ≡ held_size (C.Ord count body key c lo hi) h
size-Ord count body key c lo hi h = ord_size_in count body (entry_piece (writing_all (key ∷ [])) (writing c)) (keyed_of h) ∙ sym (ap bytes_in (piece-Ord h count body key c lo hi))

-- the values of a key
abbrev over : ℕ → List Code → Row → ℕ
over j [] row = 0
over j (c ∷ cs) row = value_size c (slice_get row j) + over (j + 1) cs row

over-is : (j : ℕ) (cs : List Code) (e : Entry) → key_size j cs e ≡ over j cs e.key
over-is j [] e = refl
over-is j (c ∷ cs) e = ap (λ n. value_size c (key_value j e) + n) (over-is (j + 1) cs e)

over-none : (j : ℕ) (cs : List Code) → over j cs [] ≡ 0
over-none j [] = refl
over-none j (c ∷ cs) = (λ i. nothing_size c i + over-none (j + 1) cs i)

over-next : (j : ℕ) (cs : List Code) (v : Value) (row : Row) → over (j + 1) cs (v ∷ row) ≡ over j cs row
over-next j [] v row = refl
over-next j (c ∷ cs) v row =
    let one : j + 1 ≡ suc j = omega arith in
    (λ i. value_size c (slice_get (v ∷ row) (one i)) + over-next (j + 1) cs v row i)

no_values : (hs : List Held) → length (side_by_side [] hs).bytes ≡ 0
no_values [] = refl
no_values (h ∷ hs) = refl

values_size : (cs : List Code) (row : Row) → length (side_by_side (writing_all cs) (map Leaf row)).bytes ≡ over 0 cs row
values_size [] row = no_values (map Leaf row)
values_size (c ∷ cs) [] = sym (over-none 0 (c ∷ cs))
values_size (c ∷ cs) (v ∷ row) = length-append (writing c (Leaf v)).bytes (side_by_side (writing_all cs) (map Leaf row)).bytes ∙ ap (λ n. held_size c (Leaf v) + n) (values_size cs row ∙ sym (over-next 0 cs v row))

-- an entry: its key, and what stands under it
entry_size : (cs : List Code) (c : Code) (e : Entry) → key_size 0 cs e + held_size c e.kid ≡ length (entry_piece (writing_all cs) (writing c) e).bytes
entry_size cs c e =
    sym (length-append (side_by_side (writing_all cs) (map Leaf e.key)).bytes (writing c e.kid).bytes
    ∙ ap (λ n. n + held_size c e.kid) (values_size cs e.key ∙ sym (over-is 0 cs e)))

pub entry_sizes : (cs : List Code) (c : Code) (es : List Entry) → added (map (key_size 0 cs) es) (map (held_size c) (kids es)) ≡ map (λ (e : Entry). length (entry_piece (writing_all cs) (writing c) e).bytes) es
entry_sizes cs c [] = refl
entry_sizes cs c (e ∷ es) = (λ i. entry_size cs c e i ∷ entry_sizes cs c es i)
