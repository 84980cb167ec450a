-- Indexes: what is written is read, and what is read is so written.
use Rattle.std.proofs.Common.{◌≡◌, ◌∙◌, ℕ, ◌*◌, ◌<◌, nat_lt, List, [], ◌∷◌, ◌++◌, take, drop, length, true, ◌&&◌, Option, Some, None, ap, sym, refl, arith, append_assoc, length-append}
use Rattle.std.specs.List.{list_all}
use Rattle.std.specs.Str.{bytes_eq}
use Rattle.std.proofs.lemmas.Bool.{and_parts, and_from, lt-ltb}
use Rattle.std.proofs.lemmas.List.{take_at, drop_at, take-append-drop}
use Rattle.std.proofs.lemmas.List.FromFn.{length-map-range_with_len}
use Rattle.std.proofs.lemmas.Nat.{pow_pos}
use Rattle.std.proofs.Math.Nat.{mod-lt, suc-mul, zero-mul}
use Rattle.std.proofs.lemmas.Slice.Eq.{bytes_eq-Decides}
use Rattle.castor_alg.specs.declared.held.Entry.{Entry}
use Rattle.castor_alg.specs.declared.held.Held.{Held, Keyed}
use Rattle.castor_alg.specs.Sorting.{sorted}
use Rattle.castor_fixed.specs.Fields.{width, field}
use Rattle.castor_fixed.proofs.FieldLaws.{length-field}
use Rattle.castor_dir.specs.Buckets.{bucket_count}
use Rattle.castor_code.specs.declared.code.Range.{Range}
use Rattle.castor_code.specs.Shapes.{keyed_of}
use Rattle.castor_code.specs.Steps.{next, many}
use Rattle.castor_code.specs.Pieces.{Piece, one_after_other, behind_number}
use Rattle.castor_code.specs.Directories.{key_lt, ascending, bucket_of, bucketed, bucket_starts, entry_starts, offset_fields, index_piece, hash_piece, ord_piece}
use Rattle.castor_code.specs.Readings.{Read, ranged, begins, confirmed, index_read, hash_offsets, ord_offsets}
use Rattle.castor_code.proofs.ShapeLaws.{is_keyed}
use Rattle.castor_code.proofs.StepLaws.{got, next_of, came, when_holds, let_through}
use Rattle.castor_code.proofs.ValueLaws.{before_piece}
use Rattle.castor_code.proofs.PartLaws.{Again, many_again}
use Rattle.castor_code.proofs.BucketLaws.{length-by_bucket, sorted-rising, sorted-bucketed}
use Rattle.castor_code.proofs.KeyLaws.{keys_apart}

-- offsets take as many bytes as their fields
length-offsets : (body : Range) (offsets : List ℕ) → length (offset_fields body offsets) ≡ length offsets * width body.hi
length-offsets body [] = sym (zero-mul (width body.hi))
length-offsets body (x ∷ xs) =
    let one : length (field body.hi x) ≡ width body.hi = length-field body.hi x in
    let all = length-append (field body.hi x) (offset_fields body xs) in
    let rest = length-offsets body xs in
    let more = suc-mul (length xs) (width body.hi) in
    omega arith

same_bytes : (xs : List ℕ) → bytes_eq xs xs ≡ true
same_bytes xs = (bytes_eq-Decides xs xs).1 refl

-- what fits is confirmed by its bytes
confirmed_again : (write : Held → Piece) (h : Held) (rest : List ℕ) → (write h).fits ≡ true → confirmed write h ((write h).bytes ++ rest) ≡ Some (h, rest)
confirmed_again write h rest ok =
    let bytes = (write h).bytes in
    let front : take (length bytes) (bytes ++ rest) ≡ bytes = take_at bytes rest (length bytes) refl in
    let tail : drop (length bytes) (bytes ++ rest) ≡ rest = drop_at bytes rest (length bytes) refl in
    let starts : begins bytes (bytes ++ rest) ≡ true = ap (bytes_eq bytes) front ∙ same_bytes bytes in
    when_holds _ _ (and_from _ _ ok starts) ∙ ap (got h) tail

confirmed_taken : (write : Held → Piece) (g : Held) (bs rest : List ℕ) (h : Held) → confirmed write g bs ≡ Some (h, rest) → ((write h).fits ≡ true) × (bs ≡ (write h).bytes ++ rest)
confirmed_taken write g bs rest h is =
    let found = let_through _ _ _ _ _ is in
    let tests = and_parts _ _ found.holds in
    let bytes = (write g).bytes in
    let front : bytes ≡ take (length bytes) bs = (bytes_eq-Decides _ _).0 tests.1 in (
      ap (λ (x : Held). (write x).fits) (sym found.value) ∙ tests.0,
      sym (take-append-drop (length bytes) bs) ∙ ap (λ xs. xs ++ drop (length bytes) bs) (sym front) ∙ ap (λ xs. bytes ++ xs) found.left ∙ ap (λ (x : Held). (write x).bytes ++ rest) found.value,
    )

-- what an index is read as was confirmed
module _ (count body : Range) (offsets : ℕ → ℕ) (one : List ℕ → Read Entry) (write : Held → Piece) where
  abbrev entries_next : List ℕ → ℕ → List ℕ → Read Held
  entries_next bs n c = next (many n one (drop (offsets n * width body.hi) c)) (λ es rest. confirmed write (Keyed (sorted key_lt es)) bs)

  abbrev body_next : List ℕ → ℕ → List ℕ → Read Held
  body_next bs n b = next (ranged body b) (λ len c. entries_next bs n c)

  pub index_taken : (bs rest : List ℕ) (h : Held) → index_read count body offsets one write bs ≡ Some (h, rest) → ((write h).fits ≡ true) × (bs ≡ (write h).bytes ++ rest)
  index_taken bs rest h is =
      let n = came (ranged count bs) (body_next bs) (h, rest) is in
      let len = came (ranged body n.left) (λ len c. entries_next bs n.first c) (h, rest) n.answer in
      let entries = came (many n.first one (drop (offsets n.first * width body.hi) len.left)) (λ es more. confirmed write (Keyed (sorted key_lt es)) bs) (h, rest) len.answer in
      confirmed_taken write (Keyed (sorted key_lt entries.first)) bs rest h entries.answer

module _ (count body : Range) (offsets : ℕ → ℕ) (entry : Entry → Piece) (one : List ℕ → Read Entry) (write : Held → Piece) where
  index_again : Again entry one → (h : Held) (rest : List ℕ) (es data_read : List Entry) (starts : List ℕ) → h ≡ Keyed es → write h ≡ index_piece count body entry es starts data_read
      → (write h).fits ≡ true → length data_read ≡ length es → length starts ≡ offsets (length es) → sorted key_lt data_read ≡ es
      → index_read count body offsets one write ((write h).bytes ++ rest) ≡ Some (h, rest)
  index_again law h rest es data_read starts is made ok long all back =
      let p = one_after_other entry data_read in
      let o = offset_fields body starts in
      let inner : Piece = record { fits = ascending es && p.fits; bytes = o ++ p.bytes } in
      let outer : Piece = behind_number body (length p.bytes) inner in
      let fits : (behind_number count (length es) outer).fits ≡ true = ap (λ (q : Piece). q.fits) (sym made) ∙ ok in
      let within = and_parts _ _ fits in
      let inside = and_parts _ _ within.1 in
      let good = (and_parts _ _ inside.1).1 in
      let skipped : drop (offsets (length es) * width body.hi) ((o ++ p.bytes) ++ rest) ≡ p.bytes ++ rest =
      ap (drop (offsets (length es) * width body.hi)) (append_assoc o p.bytes rest) ∙ drop_at o (p.bytes ++ rest) _ (length-offsets body starts ∙ ap (λ n. n * width body.hi) all) in
      let counted : many (length es) one (p.bytes ++ rest) ≡ Some (data_read, rest) = ap (λ n. many n one (p.bytes ++ rest)) (sym long) ∙ many_again entry one law data_read rest good in
      let bs = (write h).bytes ++ rest in
      let first : ranged count bs ≡ Some (length es, outer.bytes ++ rest) = ap (λ (q : Piece). ranged count (q.bytes ++ rest)) made ∙ before_piece count (length es) outer rest fits in
      let second : ranged body (outer.bytes ++ rest) ≡ Some (length p.bytes, (o ++ p.bytes) ++ rest) = before_piece body (length p.bytes) inner rest within.1 in
      next_of _ _ _ _ first
      ∙ next_of _ _ _ _ second
      ∙ next_of _ _ _ _ (ap (many (length es) one) skipped ∙ counted)
      ∙ ap (λ (xs : List Entry). confirmed write (Keyed xs) bs) back
      ∙ ap (λ (g : Held). confirmed write g bs) (sym is)
      ∙ confirmed_again write h rest ok

-- every entry falls into one of the buckets
in_range : (es : List Entry) (b : ℕ) → 0 < b → list_all (λ (e : Entry). nat_lt (bucket_of b e) b) es ≡ true
in_range [] b some = refl
in_range (e ∷ es) b some = and_from _ _ (lt-ltb _ _ (mod-lt _ some)) (in_range es b some)

ascends : (count body : Range) (entry : Entry → Piece) (es data_read : List Entry) (starts : List ℕ) → (index_piece count body entry es starts data_read).fits ≡ true → ascending es ≡ true
ascends count body entry es data_read starts ok =
    let within = and_parts _ _ ok in
    let inside = and_parts _ _ within.1 in
    (and_parts _ _ inside.1).0

module _ (count body : Range) (entry : Entry → Piece) (one : List ℕ → Read Entry) where
  pub hash_again : Again entry one → (h : Held) (rest : List ℕ) (o : Option (List Entry)) → keyed_of h ≡ o → (hash_piece count body entry o).fits ≡ true
      → index_read count body hash_offsets one (λ g. hash_piece count body entry (keyed_of g)) ((hash_piece count body entry o).bytes ++ rest) ≡ Some (h, rest)
  hash_again law h rest None is ok = absurd cc
  hash_again law h rest (Some es) is ok =
      let write : Held → Piece = λ g. hash_piece count body entry (keyed_of g) in
      let made : write h ≡ hash_piece count body entry (Some es) = ap (hash_piece count body entry) is in
      let up = ascends count body entry es (bucketed es) (bucket_starts entry es) ok in
      let fall = in_range es (bucket_count (length es)) (some_buckets (length es)) in
      ap (λ (q : Piece). index_read count body hash_offsets one write (q.bytes ++ rest)) (sym made)
      ∙ index_again count body hash_offsets entry one write law h rest es (bucketed es) (bucket_starts entry es) (is_keyed h es is) made (ap (λ (q : Piece). q.fits) made ∙ ok)
      (length-by_bucket (bucket_of (bucket_count (length es))) es (bucket_count (length es)) fall)
      (length-map-range_with_len _ 0 (hash_offsets (length es)))
      (sorted-bucketed key_lt keys_apart (bucket_of (bucket_count (length es))) (bucket_count (length es)) es up fall)
    where
      some_buckets : (n : ℕ) → 0 < bucket_count n
      some_buckets n = pow_pos _

  pub ord_again : Again entry one → (h : Held) (rest : List ℕ) (o : Option (List Entry)) → keyed_of h ≡ o → (ord_piece count body entry o).fits ≡ true
      → index_read count body ord_offsets one (λ g. ord_piece count body entry (keyed_of g)) ((ord_piece count body entry o).bytes ++ rest) ≡ Some (h, rest)
  ord_again law h rest None is ok = absurd cc
  ord_again law h rest (Some es) is ok =
      let write : Held → Piece = λ g. ord_piece count body entry (keyed_of g) in
      let made : write h ≡ ord_piece count body entry (Some es) = ap (ord_piece count body entry) is in
      let up = ascends count body entry es es (entry_starts entry es) ok in
      ap (λ (q : Piece). index_read count body ord_offsets one write (q.bytes ++ rest)) (sym made)
      ∙ index_again count body ord_offsets entry one write law h rest es es (entry_starts entry es) (is_keyed h es is) made (ap (λ (q : Piece). q.fits) made ∙ ok)
      refl
      (length-map-range_with_len _ 0 (length es))
      (sorted-rising key_lt keys_apart es up)
