-- The bounds of a bucket in a plan.
use Rattle.std.proofs.Common.{◌≡◌, ℕ, ◌+◌, ◌<◌, ◌≤◌, List, length, get_or, slice_range, eqb, All, sym, subst, arith}
use Rattle.std.proofs.lemmas.List.{length-map}
use Rattle.std.proofs.lemmas.List.Elements.{All-filter}
use Rattle.std.proofs.lemmas.List.FromFn.{get_or-map-range_with_len, get_or-range_with_len, length-range_with_len}
use Rattle.std.proofs.lemmas.List.Sorted.{length_permutation}
use Rattle.castor_alg.specs.declared.held.Entry.{Entry}
use Rattle.castor_dir.specs.declared.plan.Plan.{Plan}
use Rattle.castor_dir.specs.Hashing.{hash_of}
use Rattle.castor_dir.specs.Buckets.{bucket_count, places, places_in, start_of}
use Rattle.castor_dir.specs.Plans.{buckets_of, plan_of}
use Rattle.castor_image.specs.Puts.{hashes}
use Rattle.castor_dir.proofs.CountLaws.{start_of-le, start_of-mono}
use Rattle.castor_dir.proofs.DirectoryLaws.{plan_of-directory}

-- a bucket of a plan: its start and the next one are there, and between them stand its places
pub record HasBucket (hashes : List ℕ) (plan : Plan) (b : ℕ) : Type 0 where
  pub long : length plan.starts ≡ plan.buckets + 1
  pub rises : get_or plan.starts b 0 ≤ get_or plan.starts (b + 1) 0
  pub within : get_or plan.starts (b + 1) 0 ≤ length plan.order
  pub places : slice_range plan.order (get_or plan.starts b 0) (get_or plan.starts (b + 1) 0) ≡ places_in (buckets_of hashes) b

pub has_bucket : (hashes : List ℕ) (plan : Plan) (b : ℕ) → plan ≡ plan_of hashes → b < plan.buckets → HasBucket hashes plan b
has_bucket hashes plan b is inside = subst (λ (p : Plan). HasBucket hashes p b) (sym is) (there (subst (λ (p : Plan). b < p.buckets) is inside))
  where
    there : b < bucket_count (length hashes) → HasBucket hashes (plan_of hashes) b
    there within =
        let assigned = buckets_of hashes in
        let n = bucket_count (length hashes) + 1 in
        let directory = plan_of-directory hashes in
        let first : get_or (plan_of hashes).starts b 0 ≡ start_of assigned b = get_or-map-range_with_len (start_of assigned) 0 n b b 0 (omega arith) (omega arith) in
        let next : get_or (plan_of hashes).starts (b + 1) 0 ≡ start_of assigned (b + 1) = get_or-map-range_with_len (start_of assigned) 0 n (b + 1) (b + 1) 0 (omega arith) (omega arith) in
        let up = start_of-mono assigned b (b + 1) (omega arith) in
        let most = start_of-le assigned (b + 1) in
        let all = length_permutation (places (length assigned)) (plan_of hashes).order directory.permutation in
        let count = length-range_with_len 0 (length assigned) in
        record { long = directory.starts; rises = omega arith; within = omega arith; places = directory.parts b within }

-- the places of a bucket are those of entries
pub places_there : (hashes : List ℕ) (b : ℕ) → All (λ p. p < length hashes) (places_in (buckets_of hashes) b)
places_there hashes b = λ k d inside.
    let assigned = buckets_of hashes in
    let same : length assigned ≡ length hashes = length-map hashes _ in
    subst (λ n. get_or (places_in assigned b) k d < n) same (below_filter assigned k d inside)
  where
    below_places : (n : ℕ) → All (λ p. p < n) (places n)
    below_places n = λ k d inside. let long = length-range_with_len 0 n in let here = get_or-range_with_len 0 n k d (omega arith) in omega arith

    below_filter : (assigned : List ℕ) (k d : ℕ) → k < length (places_in assigned b) → get_or (places_in assigned b) k d < length assigned
    below_filter assigned k d inside = All-filter (λ p. eqb (get_or assigned p 0) b) (λ p. p < length assigned) (places (length assigned)) (below_places (length assigned)) k d inside

pub bucket_inside : (es : List Entry) (b : ℕ) → All (λ p. p < length es) (places_in (buckets_of (hashes es)) b)
bucket_inside es b = subst (λ n. All (λ p. p < n) (places_in (buckets_of (hashes es)) b)) (length-map es (λ (e : Entry). hash_of e.key)) (places_there (hashes es) b)
