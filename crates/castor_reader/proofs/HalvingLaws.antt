-- Lists in which what passes a test stands in front, searched by halving.
use Rattle.std.proofs.Common.{◌≡◌, ◌∙◌, ℕ, zero, suc, ◌<◌, ◌≤◌, ◌+◌, ◌-◌, min, List, [], ◌∷◌, length, filter, take, drop, get_or, refl, sym, ap, cond, Bool, true, false, ◌&&◌, inl, inr, arith}
use Rattle.std.specs.List.{list_all}
use Rattle.std.specs.List.Sorted.{IsPartitionedBy}
use Rattle.std.proofs.lemmas.Bool.{and_parts, cases_lt}
use Rattle.std.proofs.lemmas.List.{drop-take, drop_all, length-take}
use Rattle.castor_code.specs.Directories.{rises}

-- an element of a list each element of which passes
pub all_at : {X : Type 0} (p : X → Bool) (xs : List X) (i : ℕ) (d : X) → list_all p xs ≡ true → i < length xs → p (get_or xs i d) ≡ true
all_at p [] i d h l = absurd (omega (arith, l))
all_at p (x ∷ xs) zero d h l = (and_parts (p x) (list_all p xs) h).0
all_at p (x ∷ xs) (suc i) d h l = all_at p xs i d (and_parts (p x) (list_all p xs) h).1 (omega (arith, l))

-- a test that each element passes before one that passes it, in a list that rises
pub parted : {X : Type 0} (before : X → X → Bool) (good p : X → Bool) → ((x y : X) → good x ≡ true → good y ≡ true → before x y ≡ true → p y ≡ true → p x ≡ true)
    → (xs : List X) → list_all good xs ≡ true → rises before xs ≡ true → IsPartitionedBy p xs
parted before good p falls [] g r i j d le h t = absurd (omega (arith, h))
parted before good p falls (x ∷ xs) g r zero zero d le h t = t
parted before good p falls (x ∷ xs) g r zero (suc j) d le h t =
    let (here, rest) = and_parts (good x) (list_all good xs) g in
    let (first, others) = and_parts (list_all (before x) xs) (rises before xs) r in
    let l : j < length xs = omega (arith, h) in
    falls x (get_or xs j d) here (all_at good xs j d rest l) (all_at (before x) xs j d first l) t
parted before good p falls (x ∷ xs) g r (suc i) zero d le h t = absurd (omega (arith, le))
parted before good p falls (x ∷ xs) g r (suc i) (suc j) d le h t =
    let (here, rest) = and_parts (good x) (list_all good xs) g in
    let (first, others) = and_parts (list_all (before x) xs) (rises before xs) r in
    parted before good p falls xs rest others i j d (omega (arith, le)) (omega (arith, h)) t

-- the answer of a test for each place before one, and for each from it on
abbrev pub Before : {X : Type 0} → (X → Bool) → Bool → List X → ℕ → Type 0
Before {X} p b xs n = (k : ℕ) (d : X) → k < n → k < length xs → p (get_or xs k d) ≡ b

abbrev pub From : {X : Type 0} → (X → Bool) → Bool → List X → ℕ → Type 0
From {X} p b xs n = (k : ℕ) (d : X) → n ≤ k → k < length xs → p (get_or xs k d) ≡ b

passes : {X : Type 0} (p : X → Bool) (x : X) (us : List X) (b : Bool) → p x ≡ b → cond (p x) (x ∷ us) us ≡ cond b (x ∷ us) us
passes p x us b e = ap (λ c. cond c (x ∷ us) us) e

none_from : {X : Type 0} (p : X → Bool) (xs : List X) → From p false xs 0 → filter p xs ≡ []
none_from p [] f = refl
none_from p (x ∷ xs) f = passes p x (filter p xs) false (f zero x (omega arith) (omega arith)) ∙ none_from p xs (λ k d l m. f (suc k) d (omega arith) (omega (arith, m)))

-- what passes a test stands before a place
pub front_passes : {X : Type 0} (p : X → Bool) (xs : List X) (n : ℕ) → Before p true xs n → From p false xs n → filter p xs ≡ take n xs
front_passes p [] zero b f = refl
front_passes p [] (suc n) b f = refl
front_passes p (x ∷ xs) zero b f = none_from p (x ∷ xs) f
front_passes p (x ∷ xs) (suc n) b f =
    passes p x (filter p xs) true (b zero x (omega arith) (omega arith))
    ∙ ap (λ ys. x ∷ ys) (front_passes p xs n (λ k d l m. b (suc k) d (omega (arith, l)) (omega (arith, m))) (λ k d l m. f (suc k) d (omega (arith, l)) (omega (arith, m))))

-- what passes a test stands from a place on, and so it does in the front of the list
pub rest_passes : {X : Type 0} (p : X → Bool) (xs : List X) (n m : ℕ) → Before p false xs n → From p true xs n → filter p (take m xs) ≡ drop n (take m xs)
rest_passes p [] zero zero b f = refl
rest_passes p [] zero (suc m) b f = refl
rest_passes p [] (suc n) zero b f = refl
rest_passes p [] (suc n) (suc m) b f = refl
rest_passes p (x ∷ xs) zero zero b f = refl
rest_passes p (x ∷ xs) (suc n) zero b f = refl
rest_passes p (x ∷ xs) zero (suc m) b f =
    passes p x (filter p (take m xs)) true (f zero x (omega arith) (omega arith))
    ∙ ap (λ ys. x ∷ ys) (rest_passes p xs zero m (λ k d l n. absurd (omega (arith, l))) (λ k d l n. f (suc k) d (omega arith) (omega (arith, n))))
rest_passes p (x ∷ xs) (suc n) (suc m) b f =
    passes p x (filter p (take m xs)) false (b zero x (omega arith) (omega arith))
    ∙ rest_passes p xs n m (λ k d l o. b (suc k) d (omega (arith, l)) (omega (arith, o))) (λ k d l o. f (suc k) d (omega (arith, l)) (omega (arith, o)))

-- what passes two tests passes one of what passes the other
pub filter-both : {X : Type 0} (p q : X → Bool) (xs : List X) → filter (λ x. p x && q x) xs ≡ filter p (filter q xs)
filter-both p q [] = refl
filter-both p q (x ∷ xs) = step (p x) (q x) refl refl (filter-both p q xs)
  where
    step : (b c : Bool) → p x ≡ b → q x ≡ c → filter (λ y. p y && q y) xs ≡ filter p (filter q xs) → cond (p x && q x) (x ∷ filter (λ y. p y && q y) xs) (filter (λ y. p y && q y) xs) ≡ filter p (cond (q x) (x ∷ filter q xs) (filter q xs))
    step true true e f h = (λ i. cond (e i && f i) (x ∷ h i) (h i)) ∙ sym (ap (λ c. filter p (cond c (x ∷ filter q xs) (filter q xs))) f ∙ ap (λ c. cond c (x ∷ filter p (filter q xs)) (filter p (filter q xs))) e)
    step true false e f h = (λ i. cond (e i && f i) (x ∷ h i) (h i)) ∙ sym (ap (λ c. filter p (cond c (x ∷ filter q xs) (filter q xs))) f)
    step false true e f h = (λ i. cond (e i && f i) (x ∷ h i) (h i)) ∙ sym (ap (λ c. filter p (cond c (x ∷ filter q xs) (filter q xs))) f ∙ ap (λ c. cond c (x ∷ filter p (filter q xs)) (filter p (filter q xs))) e)
    step false false e f h = (λ i. cond (e i && f i) (x ∷ h i) (h i)) ∙ sym (ap (λ c. filter p (cond c (x ∷ filter q xs) (filter q xs))) f)

-- the elements from a place to one before another, none where that isn't beyond it
pub between_places : {X : Type 0} (xs : List X) (n m : ℕ) → take (m - min n m) (drop (min n m) xs) ≡ drop n (take m xs)
between_places xs n m =
    elim (cases_lt n m) [
      | inl less ↦
          let first : min n m ≡ n = omega (arith, less) in
          let whole : n + (m - n) ≡ m = omega (arith, less) in
          ap (λ k. take (m - k) (drop k xs)) first ∙ sym (drop-take n (m - n) xs) ∙ ap (λ k. drop n (take k xs)) whole
      | inr most ↦
          let first : min n m ≡ m = omega (arith, most) in
          let none : m - m ≡ 0 = omega arith in
          let all : length (take m xs) ≤ n = omega (arith, most, length-take m xs) in
          ap (λ k. take (m - k) (drop k xs)) first ∙ ap (λ k. take k (drop m xs)) none ∙ sym (drop_all n (take m xs) all)
    ]
