-- Entries put by bucket, and put back in the order of their keys.
use Rattle.std.proofs.Common.{◌≡◌, ◌∙◌, ℕ, zero, suc, ◌+◌, ◌<◌, ◌≤◌, eqb, nat_lt, append-nil, List, [], ◌∷◌, ◌++◌, filter, length, Bool, true, false, if◌then◌else◌, ap, sym, refl, subst, arith, append_assoc, length-append}
use Rattle.std.specs.List.{list_all}
use Rattle.std.proofs.lemmas.Bool.{and_parts, and_from, eq-eqb, ne_eqb, ltb-true, eqb-true, eqb-false}
use Rattle.castor_alg.specs.Sorting.{inserted, sorted}
use Rattle.castor_code.specs.Directories.{rises}
use Rattle.castor_dir.specs.Buckets.{by_bucket}
use Rattle.castor_dir.proofs.DirectoryLaws.{by_bucket-next}

module _ {X : Type 0} where
  pub all_append : (p : X → Bool) (xs ys : List X) → list_all p xs ≡ true → list_all p ys ≡ true → list_all p (xs ++ ys) ≡ true
  all_append p [] ys a b = b
  all_append p (x ∷ xs) ys a b = let parts = and_parts _ _ a in and_from _ _ parts.0 (all_append p xs ys parts.1 b)

  all_front : (p : X → Bool) (xs ys : List X) → list_all p (xs ++ ys) ≡ true → list_all p xs ≡ true
  all_front p [] ys a = refl
  all_front p (x ∷ xs) ys a = let parts = and_parts _ _ a in and_from _ _ parts.0 (all_front p xs ys parts.1)

  all_behind : (p : X → Bool) (xs ys : List X) → list_all p (xs ++ ys) ≡ true → list_all p ys ≡ true
  all_behind p [] ys a = a
  all_behind p (x ∷ xs) ys a = all_behind p xs ys (and_parts _ _ a).1

  kept : (b : Bool) (p : X → Bool) (x : X) (xs : List X) → p x ≡ true → list_all p xs ≡ true → list_all p (if b then x ∷ xs else xs) ≡ true
  kept true p x xs first rest = and_from _ _ first rest
  kept false p x xs first rest = rest

  all_filter : (p q : X → Bool) (xs : List X) → list_all p xs ≡ true → list_all p (filter q xs) ≡ true
  all_filter p q [] a = refl
  all_filter p q (x ∷ xs) a = let parts = and_parts _ _ a in kept (q x) p x (filter q xs) parts.0 (all_filter p q xs parts.1)

  -- the others are as they were, and one stands between them
  pub record Between (x : X) (with_it without : List X) : Type 0 where
    pub front : List X
    pub rest : List X
    pub with_all : with_it ≡ front ++ x ∷ rest
    pub without_it : without ≡ front ++ rest

  other_bucket : (k : X → ℕ) (x : X) (xs : List X) (b : ℕ) → (k x ≡ b → ⊥) → filter (λ y. eqb (k y) b) (x ∷ xs) ≡ filter (λ y. eqb (k y) b) xs
  other_bucket k x xs b not = ap (λ (t : Bool). if t then x ∷ filter (λ y. eqb (k y) b) xs else filter (λ y. eqb (k y) b) xs) (ne_eqb (k x) b not)

  own_bucket : (k : X → ℕ) (x : X) (xs : List X) (b : ℕ) → k x ≡ b → filter (λ y. eqb (k y) b) (x ∷ xs) ≡ x ∷ filter (λ y. eqb (k y) b) xs
  own_bucket k x xs b is = ap (λ (t : Bool). if t then x ∷ filter (λ y. eqb (k y) b) xs else filter (λ y. eqb (k y) b) xs) (eq-eqb (k x) b is)

  -- before its bucket a thing isn't met
  not_before : (k : X → ℕ) (x : X) (xs : List X) (b : ℕ) → b ≤ k x → by_bucket k b (x ∷ xs) ≡ by_bucket k b xs
  not_before k x xs zero le = refl
  not_before k x xs (suc b) le =
      let one : b + 1 ≡ suc b = omega arith in
      subst (λ n. by_bucket k n (x ∷ xs) ≡ by_bucket k n xs) one
      (by_bucket-next k (x ∷ xs) b ∙ ap (λ (ys : List X). ys ++ filter (λ y. eqb (k y) b) (x ∷ xs)) (not_before k x xs b (omega arith)) ∙ ap (λ (ys : List X). by_bucket k b xs ++ ys) (other_bucket k x xs b (λ (is : k x ≡ b). omega arith)) ∙ sym (by_bucket-next k xs b))

  in_bucket : (k : X → ℕ) (x : X) (xs : List X) (b : ℕ) → k x ≡ b → Between x (by_bucket k (b + 1) (x ∷ xs)) (by_bucket k (b + 1) xs)
  in_bucket k x xs b is = record {
    front = by_bucket k b xs;
    rest = filter (λ y. eqb (k y) b) xs;
    with_all = by_bucket-next k (x ∷ xs) b ∙ ap (λ (ys : List X). ys ++ filter (λ y. eqb (k y) b) (x ∷ xs)) (not_before k x xs b (omega arith)) ∙ ap (λ (ys : List X). by_bucket k b xs ++ ys) (own_bucket k x xs b is);
    without_it = by_bucket-next k xs b;
  }

  behind_bucket : (k : X → ℕ) (x : X) (xs : List X) (b : ℕ) → (k x ≡ b → ⊥) → Between x (by_bucket k b (x ∷ xs)) (by_bucket k b xs) → Between x (by_bucket k (b + 1) (x ∷ xs)) (by_bucket k (b + 1) xs)
  behind_bucket k x xs b not so = record {
    front = so.front;
    rest = so.rest ++ filter (λ y. eqb (k y) b) xs;
    with_all = by_bucket-next k (x ∷ xs) b ∙ ap (λ (ys : List X). ys ++ filter (λ y. eqb (k y) b) (x ∷ xs)) so.with_all ∙ ap (λ (ys : List X). (so.front ++ x ∷ so.rest) ++ ys) (other_bucket k x xs b not) ∙ append_assoc so.front (x ∷ so.rest) (filter (λ y. eqb (k y) b) xs);
    without_it = by_bucket-next k xs b ∙ ap (λ (ys : List X). ys ++ filter (λ y. eqb (k y) b) xs) so.without_it ∙ append_assoc so.front so.rest (filter (λ y. eqb (k y) b) xs);
  }

  -- past its bucket a thing stands between the others
  between : (k : X → ℕ) (x : X) (xs : List X) (b : ℕ) → k x < b → Between x (by_bucket k b (x ∷ xs)) (by_bucket k b xs)
  between k x xs zero lt = absurd (omega arith)
  between k x xs (suc b) lt =
      let one : b + 1 ≡ suc b = omega arith in
      subst (λ n. Between x (by_bucket k n (x ∷ xs)) (by_bucket k n xs)) one (by (λ (below : k x < b). between k x xs b below) (eqb (k x) b) refl)
    where
      by : (k x < b → Between x (by_bucket k b (x ∷ xs)) (by_bucket k b xs)) → (t : Bool) → t ≡ eqb (k x) b → Between x (by_bucket k (b + 1) (x ∷ xs)) (by_bucket k (b + 1) xs)
      by before true is = in_bucket k x xs b (eqb-true (k x) b (sym is))
      by before false is = let not = eqb-false (k x) b (sym is) in behind_bucket k x xs b not (before (below (k x) b lt not))
        where
          below : (m n : ℕ) → m < suc n → (m ≡ n → ⊥) → m < n
          below m n small other = omega arith

  all_bucketed : (p : X → Bool) (k : X → ℕ) (xs : List X) (b : ℕ) → list_all p xs ≡ true → list_all p (by_bucket k b xs) ≡ true
  all_bucketed p k xs zero a = refl
  all_bucketed p k xs (suc b) a = let one : b + 1 ≡ suc b = omega arith in subst (λ n. list_all p (by_bucket k n xs) ≡ true) one (ap (list_all p) (by_bucket-next k xs b) ∙ all_append p (by_bucket k b xs) (filter (λ y. eqb (k y) b) xs) (all_bucketed p k xs b a) (all_filter p (λ y. eqb (k y) b) xs a))

  pub length-by_bucket : (k : X → ℕ) (xs : List X) (b : ℕ) → list_all (λ x. nat_lt (k x) b) xs ≡ true → length (by_bucket k b xs) ≡ length xs
  length-by_bucket k [] b a = none b
    where
      none : (b : ℕ) → length (by_bucket k b []) ≡ 0
      none zero = refl
      none (suc b) = let one : b + 1 ≡ suc b = omega arith in subst (λ n. length (by_bucket k n []) ≡ 0) one (ap length (by_bucket-next k [] b) ∙ length-append (by_bucket k b []) [] ∙ ap (λ n. n + 0) (none b))
  length-by_bucket k (x ∷ xs) b a =
      let parts = and_parts _ _ a in
      let so = between k x xs b (ltb-true (k x) b parts.0) in
      let more = length-by_bucket k xs b parts.1 in
      let one = length-append so.front (x ∷ so.rest) in
      let none = length-append so.front so.rest in
      ap length so.with_all ∙ one ∙ step (length so.front) (length so.rest) ∙ ap suc (sym none ∙ ap length (sym so.without_it) ∙ more)
    where
      step : (m n : ℕ) → m + suc n ≡ suc (m + n)
      step m n = omega arith

module _ {X : Type 0} (lt : X → X → Bool) (apart : (x y : X) → lt x y ≡ true → lt y x ≡ false) where
  first_in : (x : X) (xs : List X) → list_all (lt x) xs ≡ true → inserted lt x xs ≡ x ∷ xs
  first_in x [] a = refl
  first_in x (y ∷ ys) a = ap (λ (t : Bool). if t then y ∷ inserted lt x ys else x ∷ y ∷ ys) (apart x y (and_parts _ _ a).0)

  all_inserted : (p : X → Bool) (x : X) (xs : List X) → p x ≡ true → list_all p xs ≡ true → list_all p (inserted lt x xs) ≡ true
  all_inserted p x [] first rest = and_from _ _ first refl
  all_inserted p x (y ∷ ys) first rest = let parts = and_parts _ _ rest in by (all_inserted p x ys first parts.1) (lt y x)
    where
      by : list_all p (inserted lt x ys) ≡ true → (t : Bool) → list_all p (if t then y ∷ inserted lt x ys else x ∷ y ∷ ys) ≡ true
      by more true = and_from _ _ (and_parts _ _ rest).0 more
      by more false = and_from _ _ first rest

  all_sorted : (p : X → Bool) (xs : List X) → list_all p xs ≡ true → list_all p (sorted lt xs) ≡ true
  all_sorted p [] a = refl
  all_sorted p (x ∷ xs) a = let parts = and_parts _ _ a in all_inserted p x (sorted lt xs) parts.0 (all_sorted p xs parts.1)

  -- what is before all others comes first, wherever it stands
  least_first : (x : X) (front rest : List X) → list_all (lt x) front ≡ true → list_all (lt x) rest ≡ true → sorted lt (front ++ x ∷ rest) ≡ x ∷ sorted lt (front ++ rest)
  least_first x [] rest a b = first_in x (sorted lt rest) (all_sorted (lt x) rest b)
  least_first x (y ∷ front) rest a b =
      let parts = and_parts _ _ a in
      ap (inserted lt y) (least_first x front rest parts.1 b) ∙ ap (λ (t : Bool). if t then x ∷ inserted lt y (sorted lt (front ++ rest)) else y ∷ x ∷ sorted lt (front ++ rest)) parts.0

  pub sorted-rising : (xs : List X) → rises lt xs ≡ true → sorted lt xs ≡ xs
  sorted-rising [] a = refl
  sorted-rising (x ∷ xs) a =
      let parts = and_parts _ _ a in
      ap (inserted lt x) (sorted-rising xs parts.1) ∙ first_in x xs parts.0

  pub sorted-bucketed : (k : X → ℕ) (b : ℕ) (xs : List X) → rises lt xs ≡ true → list_all (λ x. nat_lt (k x) b) xs ≡ true → sorted lt (by_bucket k b xs) ≡ xs
  sorted-bucketed k b [] a in_range = none b
    where
      none : (b : ℕ) → sorted lt (by_bucket k b []) ≡ []
      none zero = refl
      none (suc b) = let one : b + 1 ≡ suc b = omega arith in subst (λ n. sorted lt (by_bucket k n []) ≡ []) one (ap (sorted lt) (by_bucket-next k [] b ∙ append-nil (by_bucket k b [])) ∙ none b)
  sorted-bucketed k b (x ∷ xs) a in_range =
      let parts = and_parts _ _ a in
      let ranges = and_parts _ _ in_range in
      let so = between k x xs b (ltb-true (k x) b ranges.0) in
      let all : list_all (lt x) (so.front ++ so.rest) ≡ true = ap (list_all (lt x)) (sym so.without_it) ∙ all_bucketed (lt x) k xs b parts.0 in
      ap (sorted lt) so.with_all
      ∙ least_first x so.front so.rest (all_front (lt x) so.front so.rest all) (all_behind (lt x) so.front so.rest all)
      ∙ ap (λ (ys : List X). x ∷ sorted lt ys) (sym so.without_it)
      ∙ ap (λ (ys : List X). x ∷ ys) (sorted-bucketed k b xs parts.1 ranges.1)
