-- The entries at the places of a bucket.
use Rattle.std.proofs.Common.{◌≡◌, ◌∙◌, ℕ, ◌+◌, eqb, cond, List, [], ◌∷◌, ◌++◌, map, filter, take, drop, length, get_or, Bool, true, false, subst, ap, sym, refl, append_assoc, length-append}
use Rattle.std.specs.List.{flat_map, range_with_len}
use Rattle.std.proofs.lemmas.List.{drop_at, length-map}
use Rattle.castor_alg.specs.declared.held.Entry.{Entry}
use Rattle.castor_code.specs.Directories.{bucket_of}
use Rattle.castor_dir.specs.Buckets.{bucket, bucket_count, places_in}
use Rattle.castor_dir.specs.Hashing.{hash_of}
use Rattle.castor_dir.specs.Plans.{buckets_of}
use Rattle.castor_image.specs.Puts.{entries_at, hashes}

flat_map-cond : {X Y : Type 0} (f : X → List Y) (t : Bool) (x : X) (xs : List X) → flat_map f (cond t (x ∷ xs) xs) ≡ cond t (f x ++ flat_map f xs) (flat_map f xs)
flat_map-cond f true x xs = refl
flat_map-cond f false x xs = refl

module _ {X : Type 0} (k : X → ℕ) (b : ℕ) where
  -- what stands at a place, of things behind others
  abbrev at_place : List X → ℕ → List X
  at_place xs p = take 1 (drop p xs)

  abbrev picks : List X → ℕ → Bool
  picks xs p = eqb (get_or (map k xs) p 0) b

  here : (front rest : List X) (x : X) → at_place (front ++ x ∷ rest) (length front) ≡ x ∷ []
  here front rest x = ap (take 1) (drop_at front (x ∷ rest) (length front) refl)

  picked : (front rest : List X) (x : X) → get_or (map k (front ++ x ∷ rest)) (length front) 0 ≡ k x
  picked [] rest x = refl
  picked (y ∷ front) rest x = picked front rest x

  picks_from : (xs front rest : List X) → xs ≡ front ++ rest → flat_map (at_place xs) (filter (picks xs) (range_with_len (length front) (length rest))) ≡ filter (λ x. eqb (k x) b) rest
  picks_from xs front [] is = refl
  picks_from xs front (x ∷ rest) is =
      let longer : xs ≡ (front ++ x ∷ []) ++ rest = is ∙ sym (append_assoc front (x ∷ []) rest) in
      let n : length (front ++ x ∷ []) ≡ length front + 1 = length-append front (x ∷ []) in
      let others = subst (λ m. flat_map (at_place xs) (filter (picks xs) (range_with_len m (length rest))) ≡ filter (λ x. eqb (k x) b) rest) n (picks_from xs (front ++ x ∷ []) rest longer) in
      let test : picks xs (length front) ≡ eqb (k x) b = ap (λ (ys : List X). eqb (get_or (map k ys) (length front) 0) b) is ∙ ap (λ m. eqb m b) (picked front rest x) in
      let one : at_place xs (length front) ≡ x ∷ [] = ap (λ (ys : List X). at_place ys (length front)) is ∙ here front rest x in
      let tail = filter (picks xs) (range_with_len (length front + 1) (length rest)) in
      flat_map-cond (at_place xs) (picks xs (length front)) (length front) tail
      ∙ ap (λ (ys : List X). cond (picks xs (length front)) (ys ++ flat_map (at_place xs) tail) (flat_map (at_place xs) tail)) one
      ∙ ap (λ (ys : List X). cond (picks xs (length front)) (x ∷ ys) ys) others
      ∙ ap (λ (t : Bool). cond t (x ∷ filter (λ x. eqb (k x) b) rest) (filter (λ x. eqb (k x) b) rest)) test

map-map : {X Y Z : Type 0} (f : Y → Z) (g : X → Y) (xs : List X) → map f (map g xs) ≡ map (λ x. f (g x)) xs
map-map f g [] = refl
map-map f g (x ∷ xs) = ap (λ ys. f (g x) ∷ ys) (map-map f g xs)

-- the buckets of the hashes of entries
pub buckets_of-hashes : (es : List Entry) → buckets_of (hashes es) ≡ map (bucket_of (bucket_count (length es))) es
buckets_of-hashes es =
    ap (λ n. map (λ h. bucket h (bucket_count n)) (hashes es)) (length-map es (λ (e : Entry). hash_of e.key))
    ∙ map-map (λ h. bucket h (bucket_count (length es))) (λ (e : Entry). hash_of e.key) es

-- the entries at the places of a bucket are those that fall into it
pub entries_in : (es : List Entry) (b : ℕ) → entries_at es (places_in (buckets_of (hashes es)) b) ≡ filter (λ e. eqb (bucket_of (bucket_count (length es)) e) b) es
entries_in es b =
    let k : Entry → ℕ = bucket_of (bucket_count (length es)) in
    ap (λ (assigned : List ℕ). entries_at es (places_in assigned b)) (buckets_of-hashes es)
    ∙ ap (λ n. flat_map (λ p. take 1 (drop p es)) (filter (λ p. eqb (get_or (map k es) p 0) b) (range_with_len 0 n))) (length-map es k)
    ∙ picks_from k b es [] es refl
