-- Runs of pieces: their fronts, and where each begins.
use Rattle.std.proofs.Common.{◌≡◌, ◌∙◌, ℕ, ◌+◌, ◌-◌, ◌<◌, ◌≤◌, All, List, [], ◌∷◌, ◌++◌, eqb, filter, map, take, drop, length, get_or, replicate, Bool, true, false, ◌&&◌, Result, Option, Some, None, subst, ap, sym, refl, arith, append_assoc, append-nil, length-append}
use Rattle.std.specs.List.{range_with_len}
use Rattle.std.proofs.lemmas.Bool.{and_from}
use Rattle.std.proofs.lemmas.List.{length-replicate, take-append-drop}
use Rattle.std.proofs.lemmas.List.Elements.{All-map}
use Rattle.std.proofs.lemmas.List.FromFn.{get_or-range_with_len, length-range_with_len, map-range_with_len_more}
use Rattle.castor_alg.specs.declared.held.Entry.{Entry}
use Rattle.castor_code.specs.Directories.{bucket_of, bucket_starts, bucketed, entry_starts, in_buckets, size}
use Rattle.castor_code.specs.Pieces.{Piece, both, empty_piece, one_after_other}
use Rattle.castor_dir.specs.Buckets.{bucket_count, places}
use Rattle.castor_dir.proofs.DirectoryLaws.{by_bucket-next, each_number}
use Rattle.castor_image.proofs.PieceLaws.{first_fails}
use Rattle.castor_alg.specs.declared.held.Held.{Held}
use Rattle.castor_code.specs.Pieces.{parts_piece}
use Rattle.castor_image.specs.declared.writing.PutError.{PutError}
use Rattle.castor_image.specs.Puts.{Puts, first_piece, second_piece}
use Rattle.castor_image.proofs.PutLaws.{Why, second_fails, then_put, why_more}

false_true : false ≡ true → ⊥
false_true is = absurd cc

and-assoc : (a b c : Bool) → (a && (b && c)) ≡ ((a && b) && c)
and-assoc true b c = refl
and-assoc false b c = refl

and-true : (a : Bool) → (a && true) ≡ a
and-true true = refl
and-true false = refl

both-assoc : (p q r : Piece) → both p (both q r) ≡ both (both p q) r
both-assoc p q r = λ i. record { fits = and-assoc p.fits q.fits r.fits i; bytes = sym (append_assoc p.bytes q.bytes r.bytes) i }

both-empty : (p : Piece) → both p empty_piece ≡ p
both-empty p = λ i. record { fits = and-true p.fits i; bytes = append-nil p.bytes i }

module _ {X : Type 0} (write : X → Piece) where
  pub run-append : (xs ys : List X) → one_after_other write (xs ++ ys) ≡ both (one_after_other write xs) (one_after_other write ys)
  run-append [] ys = refl
  run-append (x ∷ xs) ys = ap (both (write x)) (run-append xs ys) ∙ both-assoc (write x) (one_after_other write xs) (one_after_other write ys)

  run-one : (x : X) → one_after_other write (x ∷ []) ≡ write x
  run-one x = both-empty (write x)

  -- a run with one more at its end
  pub run-more : (xs : List X) (x : X) → one_after_other write (xs ++ x ∷ []) ≡ both (one_after_other write xs) (write x)
  run-more xs x = run-append xs (x ∷ []) ∙ ap (both (one_after_other write xs)) (run-one x)

  -- the front of a run
  pub run-front : (xs : List X) (i : ℕ) → one_after_other write xs ≡ both (one_after_other write (take i xs)) (one_after_other write (drop i xs))
  run-front xs i = ap (one_after_other write) (sym (take-append-drop i xs)) ∙ run-append (take i xs) (drop i xs)

-- what was put of a run
pub record Front (p : Piece) (out old : List ℕ) : Type 0 where
  pub fits : p.fits ≡ true
  pub bytes : out ≡ old ++ p.bytes

pub front_none : (out : List ℕ) → Front empty_piece out out
front_none out = record { fits = refl; bytes = sym (append-nil out) }

pub front_more : (p q all : Piece) (old out new : List ℕ) → all ≡ both p q → Front p out old → q.fits ≡ true → new ≡ out ++ q.bytes → Front all new old
front_more p q all old out new is so holds put = record {
  fits = ap (λ (x : Piece). x.fits) is ∙ and_from _ _ so.fits holds;
  bytes = put ∙ ap (λ xs. xs ++ q.bytes) so.bytes ∙ append_assoc old p.bytes q.bytes ∙ ap (λ (x : Piece). old ++ x.bytes) (sym is);
}

-- how far it reaches
pub front_size : (p : Piece) (out old : List ℕ) (first : ℕ) → first ≡ length old → Front p out old → length out - first ≡ length p.bytes
front_size p out old first is so = let all = ap length so.bytes ∙ length-append old p.bytes in omega arith

pub front_reach : (p : Piece) (out old : List ℕ) (first : ℕ) → first ≡ length old → Front p out old → first ≤ length out
front_reach p out old first is so = let all = ap length so.bytes ∙ length-append old p.bytes in omega arith

-- a run of which a front doesn't fit
pub run_refused : (p q r all : Piece) → all ≡ both (both p q) r → q.fits ≡ false → all.fits ≡ false
run_refused p q r all is unfit = ap (λ (x : Piece). x.fits) is ∙ first_fails (both p q).fits r.fits (second_fails p.fits q.fits unfit)

-- no front of a run is longer than the run
longer : (p q all : Piece) → all ≡ both p q → length p.bytes ≤ length all.bytes
longer p q all is = let long = ap (λ (x : Piece). length x.bytes) is ∙ length-append p.bytes q.bytes in omega arith

-- ---- entries as they come
module _ (write : Entry → Piece) (es : List Entry) where
  pub entry_starts-within : All (λ o. o ≤ length (one_after_other write es).bytes) (entry_starts write es)
  entry_starts-within = All-map (λ o. o ≤ length (one_after_other write es).bytes) (λ i. size write (take i es)) (places (length es)) (λ k d inside. longer (one_after_other write (take (get_or (places (length es)) k d) es)) (one_after_other write (drop (get_or (places (length es)) k d) es)) (one_after_other write es) (run-front write es (get_or (places (length es)) k d)))

  pub entry_starts-more : (i : ℕ) (starts new : List ℕ) (start : ℕ) → starts ≡ map (λ j. size write (take j es)) (places i) → start ≡ size write (take i es) → new ≡ starts ++ start ∷ [] → new ≡ map (λ j. size write (take j es)) (places (i + 1))
  entry_starts-more i starts new start so is pushed =
      pushed ∙ ap (λ (xs : List ℕ). xs ++ start ∷ []) so ∙ ap (λ n. map (λ j. size write (take j es)) (places i) ++ n ∷ []) is
      ∙ sym (map-range_with_len_more (λ j. size write (take j es)) 0 i i (omega arith))

-- ---- entries bucket by bucket
module _ (write : Entry → Piece) (es : List Entry) where
  pub buckets_next : (b : ℕ) → one_after_other write (in_buckets (b + 1) es) ≡ both (one_after_other write (in_buckets b es)) (one_after_other write (filter (λ e. eqb (bucket_of (bucket_count (length es)) e) b) es))
  buckets_next b = ap (one_after_other write) (by_bucket-next (bucket_of (bucket_count (length es))) es b) ∙ run-append write (in_buckets b es) (filter (λ e. eqb (bucket_of (bucket_count (length es)) e) b) es)

  sizes_rise : (b c : ℕ) → size write (in_buckets b es) ≤ size write (in_buckets (b + c) es)
  sizes_rise b = each_number (λ c. size write (in_buckets b es) ≤ size write (in_buckets (b + c) es))
      (let none : b + 0 ≡ b = omega arith in subst (λ n. size write (in_buckets b es) ≤ size write (in_buckets n es)) (sym none) (omega arith))
      (λ c rest.
      let more : b + (c + 1) ≡ b + c + 1 = omega arith in
      let up : size write (in_buckets (b + c) es) ≤ size write (in_buckets (b + c + 1) es) = longer (one_after_other write (in_buckets (b + c) es)) (one_after_other write (filter (λ e. eqb (bucket_of (bucket_count (length es)) e) (b + c)) es)) (one_after_other write (in_buckets (b + c + 1) es)) (buckets_next (b + c)) in
      subst (λ n. size write (in_buckets b es) ≤ size write (in_buckets n es)) (sym more) (omega arith))

  size_within : (b : ℕ) → b ≤ bucket_count (length es) → size write (in_buckets b es) ≤ length (one_after_other write (bucketed es)).bytes
  size_within b le =
      let back : b + (bucket_count (length es) - b) ≡ bucket_count (length es) = omega arith in
      subst (λ n. size write (in_buckets b es) ≤ size write (in_buckets n es)) back (sizes_rise b (bucket_count (length es) - b))

  pub bucket_starts-within : All (λ o. o ≤ length (one_after_other write (bucketed es)).bytes) (bucket_starts write es)
  bucket_starts-within =
      let n = bucket_count (length es) + 1 in
      All-map (λ o. o ≤ length (one_after_other write (bucketed es)).bytes) (λ b. size write (in_buckets b es)) (range_with_len 0 n)
      (λ k d inside.
      let long = length-range_with_len 0 n in
      let here = get_or-range_with_len 0 n k d (omega arith) in
      size_within (get_or (range_with_len 0 n) k d) (omega arith))

  pub bucket_starts-more : (b : ℕ) (starts new : List ℕ) (start : ℕ) → starts ≡ map (λ c. size write (in_buckets c es)) (range_with_len 0 b) → start ≡ size write (in_buckets b es) → new ≡ starts ++ start ∷ [] → new ≡ map (λ c. size write (in_buckets c es)) (range_with_len 0 (b + 1))
  bucket_starts-more b starts new start so is pushed =
      pushed ∙ ap (λ (xs : List ℕ). xs ++ start ∷ []) so ∙ ap (λ n. map (λ c. size write (in_buckets c es)) (range_with_len 0 b) ++ n ∷ []) is
      ∙ sym (map-range_with_len_more (λ c. size write (in_buckets c es)) 0 b b (omega arith))

-- ---- two parts
module _ (a b : Held → Piece) where
  pub pair_put : (o : Option (List Held)) (old mid new : List ℕ) (r : Result (Unit {0}) PutError) → ((first_piece a o).fits ≡ true) × (mid ≡ old ++ (first_piece a o).bytes) → Puts (second_piece b o) mid new r → Puts (parts_piece (a ∷ b ∷ []) o) old new r
  pair_put None old mid new r put more = absurd (false_true put.0)
  pair_put (Some []) old mid new r put more = absurd (false_true put.0)
  pair_put (Some (h ∷ [])) old mid new r put more = absurd (false_true put.0)
  pair_put (Some (h ∷ g ∷ [])) old mid new r put more = then_put (a h) (both (b g) empty_piece) old mid new r put.0 put.1 (subst (λ (p : Piece). Puts p mid new r) (sym (both-empty (b g))) more)
  pair_put (Some (h ∷ g ∷ f ∷ hs)) old mid new r put more = absurd (false_true put.0)

  unfit_pair : (o : Option (List Held)) → (first_piece a o).fits ≡ false → (parts_piece (a ∷ b ∷ []) o).fits ≡ false
  unfit_pair None unfit = refl
  unfit_pair (Some []) unfit = refl
  unfit_pair (Some (h ∷ [])) unfit = second_fails (a h).fits false refl
  unfit_pair (Some (h ∷ g ∷ [])) unfit = first_fails (a h).fits (both (b g) empty_piece).fits unfit
  unfit_pair (Some (h ∷ g ∷ f ∷ hs)) unfit = second_fails (a h).fits ((b g).fits && false) (second_fails (b g).fits false refl)

  pub pair_refused : (o : Option (List Held)) (e : PutError) → Why e ((first_piece a o).fits ≡ false) → Why e ((parts_piece (a ∷ b ∷ []) o).fits ≡ false)
  pair_refused o e why = why_more e (unfit_pair o) why

-- ---- a body behind its room
pub body_long : (p : Piece) (old room out : List ℕ) (first : ℕ) → first ≡ length (old ++ room) → out ≡ (old ++ room) ++ p.bytes → length out - first ≡ length p.bytes
body_long p old room out first is put = let all = ap length put ∙ length-append (old ++ room) p.bytes in omega arith

-- room that was put
pub room_long : (old new : List ℕ) (n : ℕ) → new ≡ old ++ replicate n 0 → length new ≡ length old + n
room_long old new n put = ap length put ∙ length-append old (replicate n 0) ∙ ap (λ k. length old + k) (length-replicate n 0)

-- ---- a bucket that doesn't fit
module _ (write : Entry → Piece) (es : List Entry) where
  unfit_later : (b c : ℕ) → (one_after_other write (in_buckets b es)).fits ≡ false → (one_after_other write (in_buckets (b + c) es)).fits ≡ false
  unfit_later b c unfit = each_number (λ d. (one_after_other write (in_buckets (b + d) es)).fits ≡ false)
      (let none : b + 0 ≡ b = omega arith in subst (λ n. (one_after_other write (in_buckets n es)).fits ≡ false) (sym none) unfit)
      (λ d rest.
      let more : b + (d + 1) ≡ b + d + 1 = omega arith in
      subst (λ n. (one_after_other write (in_buckets n es)).fits ≡ false) (sym more) (ap (λ (x : Piece). x.fits) (buckets_next write es (b + d)) ∙ first_fails (one_after_other write (in_buckets (b + d) es)).fits _ rest))
      c

  pub bucket_unfit : (b : ℕ) → b < bucket_count (length es) → (one_after_other write (filter (λ e. eqb (bucket_of (bucket_count (length es)) e) b) es)).fits ≡ false → (one_after_other write (bucketed es)).fits ≡ false
  bucket_unfit b inside unfit =
      let here : (one_after_other write (in_buckets (b + 1) es)).fits ≡ false = ap (λ (x : Piece). x.fits) (buckets_next write es b) ∙ second_fails (one_after_other write (in_buckets b es)).fits _ unfit in
      let back : b + 1 + (bucket_count (length es) - (b + 1)) ≡ bucket_count (length es) = omega arith in
      subst (λ n. (one_after_other write (in_buckets n es)).fits ≡ false) back (unfit_later (b + 1) (bucket_count (length es) - (b + 1)) here)
