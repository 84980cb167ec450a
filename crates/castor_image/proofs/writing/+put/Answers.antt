use Rattle.std.proofs.Common.{◌≡◌, ◌∙◌, ℕ, ◌+◌, ◌-◌, ◌<◌, ◌≤◌, All, List, [], ◌∷◌, ◌++◌, map, take, drop, length, inr, refl, ap, sym, subst, rules, arith}
use Rattle.std.specs.List.{range_with_len}
use Rattle.std.proofs.lemmas.Grind.{take_at_read}
use Rattle.std.proofs.lemmas.List.{length-map}
use Rattle.std.proofs.lemmas.List.FromFn.{length-map-range_with_len}
use Rattle.castor_alg.specs.declared.held.Entry.{Entry}
use Rattle.castor_code.specs.declared.code.Code.{Code}
use Rattle.castor_code.specs.declared.code.Code.TheFolds.{the_lemmas}
use Rattle.castor_code.specs.Data.{format}
use Rattle.castor_code.specs.Directories.{bucket_starts, bucketed, entry_starts, in_buckets, size}
use Rattle.castor_code.specs.Pieces.{Piece, both, one_after_other}
use Rattle.castor_code.specs.Shapes.{parts_of}
use Rattle.castor_dir.specs.Buckets.{bucket_count}
use Rattle.castor_dir.specs.Hashing.{hash_of}
use Rattle.castor_dir.specs.declared.plan.Plan.{Plan}
use Rattle.castor_image.specs.Puts.{Puts, directed_piece, entries_at, entry_by, front_width, hashes}
use Rattle.castor_image.proofs.ArmLaws.{dep_node, hash_node, ord_node, put_node}
use Rattle.castor_image.proofs.BucketLaws.{entries_in}
use Rattle.castor_image.proofs.KeyPutLaws.{entry_put, entry_refused, sides_apart}
use Rattle.castor_image.proofs.PlanLaws.{bucket_inside, has_bucket}
use Rattle.castor_image.proofs.PutLaws.{filled, why_more}
use Rattle.castor_image.proofs.RunLaws.{Front, body_long, bucket_starts-more, bucket_starts-within, bucket_unfit, buckets_next, entry_starts-more, entry_starts-within, front_more, front_size, pair_put, room_long, run-front, run-more, run_refused}
use Rattle.castor_image.proofs.writing.+put.Goals as goal

pub put_data-returns-in-Hash : goal.put_data-returns-in-Hash
put_data-returns-in-Hash t c =
    put_node c.args.code.now _ c.args.held.now c.args.out.now.items _ c.put_hash.result
    (hash_node c.args.code.now c.in-Hash.count c.in-Hash.body _ _ _ _ _ c.in-Hash.is c.as_slice-in-Hash.ensures c.get-in-Hash.ensures) c.put_hash.ensures

pub put_data-returns-in-Ord : goal.put_data-returns-in-Ord
put_data-returns-in-Ord t c =
    put_node c.args.code.now _ c.args.held.now c.args.out.now.items _ c.put_ord.result
    (ord_node c.args.code.now c.in-Ord.count c.in-Ord.body _ _ _ _ _ _ c.in-Ord.is (c.from_ref.ensures.value ∙ ap (λ (k : Code). k ∷ []) c.get-in-Ord-2.ensures) c.get-in-Ord.ensures) c.put_ord.ensures

pub put_data-returns-in-Ok : goal.put_data-returns-in-Ok
put_data-returns-in-Ok t c =
    put_node c.args.code.now _ c.args.held.now c.args.out.now.items _ c.put_second.result
    (dep_node c.args.code.now _ _ _ _ _ c.in-Dep.is c.get-in-Dep.ensures c.get-in-Ok.ensures)
    (pair_put (format c.get-in-Dep.result.now).write (format c.get-in-Ok.result.now).write (parts_of c.args.held.now) c.args.out.now.items _ _ c.put_second.result c.in-Ok.ensures c.put_second.ensures)

pub put_side_by_side-returns-then-kids-parts : goal.put_side_by_side-returns-then-kids-parts
put_side_by_side-returns-then-kids-parts t c = inr (refl, sides_apart c.args.kids.now c.args.parts.now c.if-kids-parts.true)

pub put_entry-returns-in-Ok : goal.put_entry-returns-in-Ok
put_entry-returns-in-Ok t c = entry_put c.args.key.now c.args.kid.now c.args.entry.now c.as_slice.result.now c.as_slice.ensures c.args.out.now.items _ _ c.put_data.result c.in-Ok.ensures c.put_data.ensures

pub put_entry-returns-in-Err : goal.put_entry-returns-in-Err
put_entry-returns-in-Err t c = entry_refused c.args.key.now c.args.kid.now c.args.entry.now c.as_slice.result.now c.as_slice.ensures c.in-Err.why c.in-Err.ensures

-- ---- bucket by bucket
pub index::put_buckets-places_of-requires-clause-starts : goal.index::put_buckets-places_of-requires-clause-starts
index::put_buckets-places_of-requires-clause-starts t c = (has_bucket (hashes c.args.entries.now) c.args.plan.now c.loop-bucket.bucket c.requires c.loop-bucket-test.true).long

pub index::put_buckets-places_of-requires-clause-rises : goal.index::put_buckets-places_of-requires-clause-rises
index::put_buckets-places_of-requires-clause-rises t c = (has_bucket (hashes c.args.entries.now) c.args.plan.now c.loop-bucket.bucket c.requires c.loop-bucket-test.true).rises

pub index::put_buckets-places_of-requires-clause-within : goal.index::put_buckets-places_of-requires-clause-within
index::put_buckets-places_of-requires-clause-within t c = (has_bucket (hashes c.args.entries.now) c.args.plan.now c.loop-bucket.bucket c.requires c.loop-bucket-test.true).within

pub index::put_buckets-put_places-requires : goal.index::put_buckets-put_places-requires
index::put_buckets-put_places-requires t c =
    let es = c.args.entries.now in
    let here = has_bucket (hashes es) c.args.plan.now c.loop-bucket.bucket c.requires c.loop-bucket-test.true in
    (search (rules, the_lemmas), subst (λ (ps : List ℕ). All (λ p. p < length es) ps) (sym (c.places_of.ensures ∙ here.places)) (bucket_inside es c.loop-bucket.bucket))

pub index::put_buckets-loop-bucket-preserved : goal.index::put_buckets-loop-bucket-preserved
index::put_buckets-loop-bucket-preserved t c =
    let es = c.args.entries.now in
    let write = entry_by c.args.key.now c.args.kid.now in
    let b = c.loop-bucket.bucket in
    let here = has_bucket (hashes es) c.args.plan.now b c.requires c.loop-bucket-test.true in
    let same = ap (entries_at es) (c.places_of.ensures ∙ here.places) ∙ entries_in es b in
    let out : c.len.result ≡ length c.loop-bucket.out.items = search (rules, c.len.ensures) in
    let start = ap (λ k. k - c.len-first.result) out ∙ front_size _ c.loop-bucket.out.items c.args.out.now.items c.len-first.result c.loop-bucket.invariant.2 c.loop-bucket.invariant.0 in (
      front_more _ _ _ c.args.out.now.items c.loop-bucket.out.items _ (buckets_next write es b) c.loop-bucket.invariant.0
          (ap (λ (xs : List Entry). (one_after_other write xs).fits) (sym same) ∙ c.in-Ok.ensures.0)
          (c.in-Ok.ensures.1 ∙ ap (λ (xs : List Entry). c.loop-bucket.out.items ++ (one_after_other write xs).bytes) same),
      bucket_starts-more write es b c.loop-bucket.starts.items _ _ c.loop-bucket.invariant.1 start c.in_ok-push.ensures.items,
      c.loop-bucket.invariant.2,
    )

pub index::put_buckets-returns-in-Err : goal.index::put_buckets-returns-in-Err
index::put_buckets-returns-in-Err t c =
    let es = c.args.entries.now in
    let write = entry_by c.args.key.now c.args.kid.now in
    let b = c.loop-bucket.bucket in
    let here = has_bucket (hashes es) c.args.plan.now b c.requires c.loop-bucket-test.true in
    let same = ap (entries_at es) (c.places_of.ensures ∙ here.places) ∙ entries_in es b in
    let many : c.args.plan.now.buckets ≡ bucket_count (length es) = ap (λ (p : Plan). p.buckets) c.requires ∙ ap bucket_count (length-map es (λ (e : Entry). hash_of e.key)) in
    let inside : b < bucket_count (length es) = omega (arith, c.loop-bucket-test.true) in
    why_more c.in-Err.why (λ unfit. bucket_unfit write es b inside (ap (λ (xs : List Entry). (one_after_other write xs).fits) (sym same) ∙ unfit)) c.in-Err.ensures

pub index::put_buckets-returns : goal.index::put_buckets-returns
index::put_buckets-returns t c =
    let es = c.args.entries.now in
    let write = entry_by c.args.key.now c.args.kid.now in
    let b = c.loop-bucket.bucket in
    let many : c.args.plan.now.buckets ≡ bucket_count (length es) = ap (λ (p : Plan). p.buckets) c.requires ∙ ap bucket_count (length-map es (λ (e : Entry). hash_of e.key)) in
    let done : b ≡ bucket_count (length es) = omega arith in
    let front = subst (λ n. Front (one_after_other write (in_buckets n es)) c.loop-bucket.out.items c.args.out.now.items) done c.loop-bucket.invariant.0 in
    let out : c.len-2.result ≡ length c.loop-bucket.out.items = search (rules, c.len-2.ensures) in
    let start = ap (λ k. k - c.len-first.result) out ∙ front_size _ c.loop-bucket.out.items c.args.out.now.items c.len-first.result c.loop-bucket.invariant.2 c.loop-bucket.invariant.0 in
    let starts = bucket_starts-more write es b c.loop-bucket.starts.items _ _ c.loop-bucket.invariant.1 start c.in_ok-push-2.ensures.items in
    (front.fits, front.bytes, starts ∙ ap (λ n. map (λ k. size write (in_buckets k es)) (range_with_len 0 (n + 1))) done)

-- ---- as they come
pub index::put_entries-loop-entry-preserved : goal.index::put_entries-loop-entry-preserved
index::put_entries-loop-entry-preserved t c =
    let es = c.args.entries.now in
    let write = entry_by c.args.key.now c.args.kid.now in
    let i = c.loop-entry.entry-index in
    let e = c.entry-item.result in
    let next : take (i + 1) es ≡ take i es ++ e ∷ [] = (take_at_read es i e c.loop-entry-test.true).1 ∙ ap (λ (x : Entry). take i es ++ x ∷ []) (sym c.entry-item.is) in
    let all = ap (one_after_other write) next ∙ run-more write (take i es) e in
    let out : c.len.result ≡ length c.loop-entry.out.items = search (rules, c.len.ensures) in
    let start = ap (λ k. k - c.len-first.result) out ∙ front_size _ c.loop-entry.out.items c.args.out.now.items c.len-first.result c.loop-entry.invariant.2 c.loop-entry.invariant.0 in (
      front_more _ _ _ c.args.out.now.items c.loop-entry.out.items _ all c.loop-entry.invariant.0 c.in-Ok.ensures.0 c.in-Ok.ensures.1,
      entry_starts-more write es i c.loop-entry.starts.items _ _ c.loop-entry.invariant.1 start c.in_ok-push.ensures.items,
      c.loop-entry.invariant.2,
    )

pub index::put_entries-returns-in-Err : goal.index::put_entries-returns-in-Err
index::put_entries-returns-in-Err t c =
    let es = c.args.entries.now in
    let write = entry_by c.args.key.now c.args.kid.now in
    let i = c.loop-entry.entry-index in
    let e = c.entry-item.result in
    let next : take (i + 1) es ≡ take i es ++ e ∷ [] = (take_at_read es i e c.loop-entry-test.true).1 ∙ ap (λ (x : Entry). take i es ++ x ∷ []) (sym c.entry-item.is) in
    let all = ap (one_after_other write) next ∙ run-more write (take i es) e in
    let rest = one_after_other write (drop (i + 1) es) in
    why_more c.in-Err.why (λ unfit. run_refused (one_after_other write (take i es)) (write e) rest (one_after_other write es) (run-front write es (i + 1) ∙ ap (λ (p : Piece). both p rest) all) unfit) c.in-Err.ensures

-- ---- fronts
pub index::put_hash_body-fill_front-requires-clause-offsets : goal.index::put_hash_body-fill_front-requires-clause-offsets
index::put_hash_body-fill_front-requires-clause-offsets t c =
    let es = c.args.entries.now in
    let write = entry_by c.args.key.now c.args.kid.now in
    let p = one_after_other write (bucketed es) in
    let made = c.in_ok-starts.ensures in
    let starts : c.as_slice.result.now ≡ bucket_starts write es = c.as_slice.ensures.value ∙ made.2 in
    let first : c.len-first.result ≡ length c.reserve_front.new.out.items = search (rules, c.len-first.ensures) in
    let size = body_long p c.args.out.now.items _ c.put_buckets.new.out.items c.len-first.result (first ∙ ap length c.in_ok-reserve_front.ensures) (made.1 ∙ ap (λ (xs : List ℕ). xs ++ p.bytes) c.in_ok-reserve_front.ensures) in
    subst (λ n. All (λ o. o ≤ n) c.as_slice.result.now) (sym size) (subst (λ (os : List ℕ). All (λ o. o ≤ length p.bytes) os) (sym starts) (bucket_starts-within write es))

pub index::put_hash_body-returns : goal.index::put_hash_body-returns
index::put_hash_body-returns t c =
    let es = c.args.entries.now in
    let write = entry_by c.args.key.now c.args.kid.now in
    let p = one_after_other write (bucketed es) in
    let old = c.args.out.now.items in
    let made = c.in_ok-starts.ensures in
    let starts : c.as_slice.result.now ≡ bucket_starts write es = c.as_slice.ensures.value ∙ made.2 in
    let at : c.len-at.result ≡ length old = search (rules, c.len-at.ensures) in
    let first : c.len-first.result ≡ length c.reserve_front.new.out.items = search (rules, c.len-first.ensures) in
    subst (λ (os : List ℕ). Puts (directed_piece c.args.body os p) old c.fill_front.new.out.items c.fill_front.result) starts
    (filled c.args.body c.len-at.result c.len-first.result c.as_slice.result.now p old _ c.put_buckets.new.out.items _ c.fill_front.result at (first ∙ ap length c.in_ok-reserve_front.ensures) made.0
    (made.1 ∙ ap (λ (xs : List ℕ). xs ++ p.bytes) c.in_ok-reserve_front.ensures) c.fill_front.ensures)

pub index::put_ord_body-fill_front-requires-clause-room : goal.index::put_ord_body-fill_front-requires-clause-room
index::put_ord_body-fill_front-requires-clause-room t c =
    let es = c.args.entries.now in
    let write = entry_by c.args.key.now c.args.kid.now in
    let starts : c.as_slice.result.now ≡ entry_starts write es = c.as_slice.ensures.value ∙ c.in_ok-starts.ensures.2 in
    let count : length c.as_slice.result.now ≡ length es = ap length starts ∙ length-map-range_with_len (λ i. size write (take i es)) 0 (length es) in
    let at : c.len-at.result ≡ length c.args.out.now.items = search (rules, c.len-at.ensures) in
    let first : c.len-first.result ≡ length c.reserve_front.new.out.items = search (rules, c.len-first.ensures) in
    let room = room_long c.args.out.now.items c.reserve_front.new.out.items _ c.in_ok-reserve_front.ensures in
    ap (λ k. c.len-at.result + front_width c.args.body k) count ∙ ap (λ k. k + front_width c.args.body (length es)) at ∙ sym (first ∙ room)

pub index::put_ord_body-fill_front-requires-clause-offsets : goal.index::put_ord_body-fill_front-requires-clause-offsets
index::put_ord_body-fill_front-requires-clause-offsets t c =
    let es = c.args.entries.now in
    let write = entry_by c.args.key.now c.args.kid.now in
    let p = one_after_other write es in
    let made = c.in_ok-starts.ensures in
    let starts : c.as_slice.result.now ≡ entry_starts write es = c.as_slice.ensures.value ∙ made.2 in
    let first : c.len-first.result ≡ length c.reserve_front.new.out.items = search (rules, c.len-first.ensures) in
    let size = body_long p c.args.out.now.items _ c.put_entries.new.out.items c.len-first.result (first ∙ ap length c.in_ok-reserve_front.ensures) (made.1 ∙ ap (λ (xs : List ℕ). xs ++ p.bytes) c.in_ok-reserve_front.ensures) in
    subst (λ n. All (λ o. o ≤ n) c.as_slice.result.now) (sym size) (subst (λ (os : List ℕ). All (λ o. o ≤ length p.bytes) os) (sym starts) (entry_starts-within write es))
