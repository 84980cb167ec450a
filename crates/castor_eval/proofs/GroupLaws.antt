-- Groups with one more row.
use Rattle.std.proofs.Common.{◌≡◌, ◌∙◌, ℕ, zero, suc, ◌+◌, List, [], ◌∷◌, ◌++◌, length, map, filter, Bool, true, false, not, ◌||◌, cond, get_or, set, refl, sym, ap, subst, inl, inr, append-nil, arith}
use Rattle.std.specs.List.{position_or_len}
use Rattle.std.specs.Bool.{MatchBool}
use Rattle.std.proofs.lemmas.Bool.{cases_Bool}
use Rattle.std.proofs.lemmas.List.{map-append, length-map}
use Rattle.std.proofs.lemmas.List.Elements.{filter-append}
use Rattle.castor_alg.specs.Distinct.{distinct}
use Rattle.castor_laws.proofs.DistinctLaws.{IsEqualityTest, test_sym}
use Rattle.castor_eval.proofs.DistinctLaws.{without, has, has-without}

or_false : (a b : Bool) → (a || b) ≡ false → (a ≡ false) × (b ≡ false)
or_false true b h = cc
or_false false b h = (refl, h)

pub set-last : {X : Type 0} (xs : List X) (y z : X) → set (xs ++ y ∷ []) (length xs) z ≡ xs ++ z ∷ []
set-last [] y z = refl
set-last (x ∷ xs) y z = ap (λ w. x ∷ w) (set-last xs y z)

pub get_or-last : {X : Type 0} (xs : List X) (y d : X) → get_or (xs ++ y ∷ []) (length xs) d ≡ y
get_or-last [] y d = refl
get_or-last (x ∷ xs) y d = get_or-last xs y d

-- the groups with an empty one for a new key
abbrev pub opened_for : {R : Type 0} → List (List R) → Bool → List (List R)
opened_for members true = members ++ [] ∷ []
opened_for members false = members

module _ {X R : Type 0} (same : X → X → Bool) (t : IsEqualityTest same) (key : R → X) where
  abbrev there : X → List X → Bool
  there k ks = has same t k ks

  abbrev others : X → List X → List X
  others k ks = without same t k ks

  -- the rows that have a key
  abbrev pub rows_of : X → List R → List R
  rows_of k rows = filter (λ r. same (key r) k) rows

  -- each key is there once
  abbrev pub Once : X → List X → Type 0
  Once k [] = Unit {0}
  Once k (j ∷ js) = MatchBool (same k j) (there k js ≡ false) (Once k js)

  gone-others : (x : X) (ds : List X) → there x (others x ds) ≡ false
  gone-others x [] = refl
  gone-others x (d ∷ ds) =
      elim (cases_Bool (same x d)) [
        | inl is ↦ rw is (gone-others x ds)
        | inr isnt ↦ rw isnt (rw isnt (gone-others x ds))
      ]

  still-gone : (k x : X) (ks : List X) → there k ks ≡ false → there k (others x ks) ≡ false
  still-gone k x [] h = refl
  still-gone k x (d ∷ ds) h =
      let (ne, gone) = or_false (same k d) (there k ds) h in
      elim (cases_Bool (same x d)) [
        | inl is ↦ rw is (still-gone k x ds gone)
        | inr isnt ↦ rw isnt (rw ne (still-gone k x ds gone))
      ]

  once-gone : (k : X) (ks : List X) → there k ks ≡ false → Once k ks
  once-gone k [] h = tt
  once-gone k (d ∷ ds) h = let (ne, gone) = or_false (same k d) (there k ds) h in rw ne (once-gone k ds gone)

  once-others : (k x : X) (ks : List X) → Once k ks → Once k (others x ks)
  once-others k x [] h = tt
  once-others k x (d ∷ ds) h =
      elim (cases_Bool (same x d)) [
        | inl is ↦ rw is (elim (cases_Bool (same k d)) [
          | inl here ↦ once-gone k (others x ds) (still-gone k x ds (rw here at h))
          | inr away ↦ once-others k x ds (rw away at h)
        ])
        | inr isnt ↦ rw isnt (elim (cases_Bool (same k d)) [
          | inl here ↦ rw here (still-gone k x ds (rw here at h))
          | inr away ↦ rw away (once-others k x ds (rw away at h))
        ])
      ]

  pub once-distinct : (xs : List X) (k : X) → Once k (distinct same xs)
  once-distinct [] k = tt
  once-distinct (x ∷ xs) k =
      elim (cases_Bool (same k x)) [
        | inl is ↦ rw is (subst (λ z. there k (others z (distinct same xs)) ≡ false) (t.only k x is) (gone-others k (distinct same xs)))
        | inr isnt ↦ rw isnt (once-others k x (distinct same xs) (once-distinct xs k))
      ]

  -- the rows of a key with one more row
  rows_of-push : (k : X) (row : R) (rows : List R) (b : Bool) → same (key row) k ≡ b → rows_of k (rows ++ row ∷ []) ≡ rows_of k rows ++ cond b (row ∷ []) []
  rows_of-push k row rows b e = filter-append (λ r. same (key r) k) rows (row ∷ []) ∙ ap (λ c. rows_of k rows ++ cond c (row ∷ []) []) e

  rows_of-other : (k : X) (row : R) (rows : List R) → same (key row) k ≡ false → rows_of k (rows ++ row ∷ []) ≡ rows_of k rows
  rows_of-other k row rows e = rows_of-push k row rows false e ∙ append-nil (rows_of k rows)

  none_at : (k : X) (r : R) (rs : List R) (b : Bool) → same (key r) k ≡ b → b ≡ false → rows_of k rs ≡ [] → cond b (r ∷ rows_of k rs) (rows_of k rs) ≡ []
  none_at k r rs true e n h = cc
  none_at k r rs false e n h = h

  -- a key that isn't there has no rows
  pub rows_of-none : (k : X) (rows : List R) → there k (distinct same (map key rows)) ≡ false → rows_of k rows ≡ []
  rows_of-none k [] h = refl
  rows_of-none k (r ∷ rs) h =
      let (ne, gone) = or_false (same k (key r)) (there k (others (key r) (distinct same (map key rs)))) h in
      none_at k r rs (same (key r) k) refl (test_sym same t (key r) k ∙ ne) (rows_of-none k rs (sym (has-without same t k (key r) (distinct same (map key rs)) ne) ∙ gone))

  -- the groups of other keys stay
  members-stay : (ks : List X) (row : R) (rows : List R) → there (key row) ks ≡ false → map (λ j. rows_of j (rows ++ row ∷ [])) ks ≡ map (λ j. rows_of j rows) ks
  members-stay [] row rows h = refl
  members-stay (j ∷ js) row rows h =
      let (ne, gone) = or_false (same (key row) j) (there (key row) js) h in
      let here = rows_of-other j row rows ne in
      let rest = members-stay js row rows gone in
      (λ i. here i ∷ rest i)

  -- the group of the row's key takes it
  members-put : (ks : List X) (row : R) (at : ℕ) (rows : List R) → Once (key row) ks → there (key row) ks ≡ true → at ≡ position_or_len (same (key row)) ks
      → map (λ j. rows_of j (rows ++ row ∷ [])) ks ≡ set (map (λ j. rows_of j rows) ks) at (get_or (map (λ j. rows_of j rows) ks) at [] ++ row ∷ [])
  members-put [] row at rows once h e = absurd (cc h)
  members-put (j ∷ js) row zero rows once h e =
      elim (cases_Bool (same (key row) j)) [
        | inl is ↦
            let rest : there (key row) js ≡ false = rw is at once in
            let here = rows_of-push j row rows true is in
            let stay = members-stay js row rows rest in
            (λ i. here i ∷ stay i)
        | inr isnt ↦ absurd (let f : zero ≡ 1 + position_or_len (same (key row)) js = rw isnt at e in omega arith)
      ]
  members-put (j ∷ js) row (suc at) rows once h e =
      elim (cases_Bool (same (key row) j)) [
        | inl is ↦ absurd (let f : suc at ≡ zero = rw is at e in omega arith)
        | inr isnt ↦
            let f : suc at ≡ 1 + position_or_len (same (key row)) js = rw isnt at e in
            let here = rows_of-other j row rows isnt in
            let put = members-put js row at rows (rw isnt at once) (rw isnt at h) (omega arith) in
            (λ i. here i ∷ put i)
      ]

  position-none : (k : X) (ks : List X) → there k ks ≡ false → position_or_len (same k) ks ≡ length ks
  position-none k [] h = refl
  position-none k (d ∷ ds) h = let (ne, gone) = or_false (same k d) (there k ds) h in rw (ne, position-none k ds gone) (omega arith)

  more_at : (keys : List X) (members : List (List R)) (rows : List R) (row : R) (at : ℕ) (is_new b : Bool) → there (key row) keys ≡ b → members ≡ map (λ k. rows_of k rows) keys → Once (key row) keys
      → (there (key row) keys ≡ false → rows_of (key row) rows ≡ []) → is_new ≡ not b → at ≡ position_or_len (same (key row)) keys
      → set (opened_for members is_new) at (get_or (opened_for members is_new) at [] ++ row ∷ []) ≡ map (λ k. rows_of k (rows ++ row ∷ [])) (cond b keys (keys ++ key row ∷ []))
  more_at keys members rows row at is_new true h m once none new e =
      ap (λ c. set (opened_for members c) at (get_or (opened_for members c) at [] ++ row ∷ [])) new
      ∙ ap (λ ms. set ms at (get_or ms at [] ++ row ∷ [])) m
      ∙ sym (members-put keys row at rows once h e)
  more_at keys members rows row at is_new false h m once none new e =
      let last : at ≡ length members = e ∙ position-none (key row) keys h ∙ sym (ap length m ∙ simp length-map) in
      ap (λ c. set (opened_for members c) at (get_or (opened_for members c) at [] ++ row ∷ [])) new
      ∙ ap (λ n. set (members ++ [] ∷ []) n (get_or (members ++ [] ∷ []) n [] ++ row ∷ [])) last
      ∙ ap (λ xs. set (members ++ [] ∷ []) (length members) (xs ++ row ∷ [])) (get_or-last members [] [])
      ∙ set-last members [] (row ∷ [])
      ∙ ap (λ ms. ms ++ (row ∷ []) ∷ []) (m ∙ sym (members-stay keys row rows h))
      ∙ ap (λ xs. map (λ k. rows_of k (rows ++ row ∷ [])) keys ++ xs ∷ []) (sym (rows_of-push (key row) row rows true (t.itself (key row)) ∙ ap (λ xs. xs ++ row ∷ []) (none h)))
      ∙ sym (map-append (λ k. rows_of k (rows ++ row ∷ [])) keys (key row ∷ []))

  -- one more row
  pub members-more : (keys : List X) (members : List (List R)) (rows : List R) (row : R) (at : ℕ) (is_new : Bool) → members ≡ map (λ k. rows_of k rows) keys → Once (key row) keys
      → (there (key row) keys ≡ false → rows_of (key row) rows ≡ []) → is_new ≡ not (there (key row) keys) → at ≡ position_or_len (same (key row)) keys
      → set (opened_for members is_new) at (get_or (opened_for members is_new) at [] ++ row ∷ []) ≡ map (λ k. rows_of k (rows ++ row ∷ [])) (cond (there (key row) keys) keys (keys ++ key row ∷ []))
  members-more keys members rows row at is_new m once none new e = more_at keys members rows row at is_new (there (key row) keys) refl m once none new e
