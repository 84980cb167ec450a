-- A list parted by the keys of its elements, over the distinct keys in any order.
use Rattle.std.proofs.Common.{◌≡◌, ◌∙◌, List, [], ◌∷◌, ◌++◌, map, filter, refl, sym, ap, subst, cond, Bool, true, false, not, ◌&&◌, ◌||◌}
use Rattle.std.specs.List.{list_any, flat_map}
use Rattle.std.proofs.lemmas.Bool.{or_right}
use Rattle.castor_alg.specs.Distinct.{distinct}
use Rattle.castor_alg.specs.Sorting.{sorted}
use Rattle.castor_alg.specs.Permutation.{Permutes, nil, skip, trans}
use Rattle.castor_laws.proofs.DistinctLaws.{IsEqualityTest, filter_both, test_sym}
use Rattle.castor_laws.proofs.EachLaws.{Each, none, one, each_weaker}
use Rattle.castor_laws.proofs.OperatorLaws.{sorted_permutes}
use Rattle.castor_laws.proofs.PermutationLaws.{append_permutes, flat_map_permutes, moved_behind, permutes_refl, permutes_sym}

clash : {P : Type 0} → true ≡ false → P
clash is = cc

-- what is filtered passes
passes_at : {X : Type 0} (P : X → Type 0) (p : X → Bool) (x : X) (xs : List X) (b : Bool) → p x ≡ b → P x → Each (λ y. P y × (p y ≡ true)) (filter p xs) → Each (λ y. P y × (p y ≡ true)) (cond b (x ∷ filter p xs) (filter p xs))
passes_at P p x xs true is first rest = one (first, is) rest
passes_at P p x xs false is first rest = rest

pub each_passes : {X : Type 0} (P : X → Type 0) (p : X → Bool) {xs : List X} → Each P xs → Each (λ x. P x × (p x ≡ true)) (filter p xs)
each_passes P p none = none
each_passes P p (one {x} {xs} first rest) = passes_at P p x xs (p x) refl first (each_passes P p rest)

module _ {K : Type 0} (same : K → K → Bool) (test : IsEqualityTest same) where
  -- the key isn't among these, or is once
  pub data Never (key : K) : List K → Type 0 where
    empty : Never key []
    past : {k : K} {ks : List K} → same key k ≡ false → Never key ks → Never key (k ∷ ks)

  pub data Once (key : K) : List K → Type 0 where
    here : {k : K} {ks : List K} → same key k ≡ true → Never key ks → Once key (k ∷ ks)
    later : {k : K} {ks : List K} → same key k ≡ false → Once key ks → Once key (k ∷ ks)

  abbrev without : K → List K → List K
  without k ks = filter (λ b. not (same k b)) ks

  never_at : (p : K → Bool) (key k : K) (ks : List K) (b : Bool) → same key k ≡ false → Never key (filter p ks) → Never key (cond b (k ∷ filter p ks) (filter p ks))
  never_at p key k ks true is rest = past is rest
  never_at p key k ks false is rest = rest

  never_filter : (p : K → Bool) (key : K) {ks : List K} → Never key ks → Never key (filter p ks)
  never_filter p key empty = empty
  never_filter p key (past {k} {ks} is rest) = never_at p key k ks (p k) is (never_filter p key rest)

  without_at : (k b : K) (ks : List K) (c : Bool) → same k b ≡ c → Never k (without k ks) → Never k (cond (not c) (b ∷ without k ks) (without k ks))
  without_at k b ks true is rest = rest
  without_at k b ks false is rest = past is rest

  never_without : (k : K) (ks : List K) → Never k (without k ks)
  never_without k [] = empty
  never_without k (b ∷ ks) = without_at k b ks (same k b) refl (never_without k ks)

  later_at : (p : K → Bool) (key k : K) (ks : List K) (b : Bool) → same key k ≡ false → Once key (filter p ks) → Once key (cond b (k ∷ filter p ks) (filter p ks))
  later_at p key k ks true is rest = later is rest
  later_at p key k ks false is rest = rest

  here_at : (p : K → Bool) (key k : K) (ks : List K) (b : Bool) → b ≡ true → same key k ≡ true → Never key (filter p ks) → Once key (cond b (k ∷ filter p ks) (filter p ks))
  here_at p key k ks true passes is rest = here is rest
  here_at p key k ks false passes is rest = clash (sym passes)

  once_filter : (p : K → Bool) (key : K) → p key ≡ true → {ks : List K} → Once key ks → Once key (filter p ks)
  once_filter p key passes (here {k} {ks} is rest) = here_at p key k ks (p k) (ap p (sym (test.only key k is)) ∙ passes) is (never_filter p key rest)
  once_filter p key passes (later {k} {ks} is rest) = later_at p key k ks (p k) is (once_filter p key passes rest)

  distinct_at : (key k : K) (ks : List K) (c : Bool) → same key k ≡ c → (c || list_any (same key) ks) ≡ true → (list_any (same key) ks ≡ true → Once key (distinct same ks)) → Once key (k ∷ without k (distinct same ks))
  distinct_at key k ks true is some rest = here is (subst (λ z. Never z (without k (distinct same ks))) (sym (test.only key k is)) (never_without k (distinct same ks)))
  distinct_at key k ks false is some rest = later is (once_filter (λ b. not (same k b)) key (ap not (test_sym same test k key ∙ is)) (rest some))

  -- a key that is there is once among the distinct ones
  once_distinct : (key : K) (ks : List K) → list_any (same key) ks ≡ true → Once key (distinct same ks)
  once_distinct key [] some = clash (sym some)
  once_distinct key (k ∷ ks) some = distinct_at key k ks (same key k) refl some (once_distinct key ks)

  module _ {X : Type 0} (key : X → K) where
    -- the elements with a key
    abbrev pub under : K → List X → List X
    under k xs = filter (λ x. same (key x) k) xs

    abbrev pub parts : List K → List X → List X
    parts ks xs = flat_map (λ k. under k xs) ks

    never_more : (x : X) (xs : List X) {ks : List K} → Never (key x) ks → parts ks (x ∷ xs) ≡ parts ks xs
    never_more x xs empty = refl
    never_more x xs (past {k} {ks} is rest) = λ i. cond (is i) (x ∷ under k xs) (under k xs) ++ never_more x xs rest i

    once_more : (x : X) (xs : List X) {ks : List K} → Once (key x) ks → Permutes (parts ks (x ∷ xs)) (x ∷ parts ks xs)
    once_more x xs (here {k} {ks} is rest) =
        subst (λ zs. Permutes zs (x ∷ (under k xs ++ parts ks xs))) (sym (λ i. cond (is i) (x ∷ under k xs) (under k xs) ++ never_more x xs rest i)) (permutes_refl _)
    once_more x xs (later {k} {ks} is rest) =
        subst (λ zs. Permutes zs (x ∷ (under k xs ++ parts ks xs))) (sym (λ i. cond (is i) (x ∷ under k xs) (under k xs) ++ parts ks (x ∷ xs)))
        (trans (append_permutes (under k xs) (once_more x xs rest)) (permutes_sym (moved_behind x (under k xs) (parts ks xs))))

    no_parts : (ks : List K) → parts ks [] ≡ []
    no_parts [] = refl
    no_parts (k ∷ ks) = no_parts ks

    -- the parts are the list in another order, where each element's key is there once
    parted : (ks : List K) {xs : List X} → Each (λ x. Once (key x) ks) xs → Permutes (parts ks xs) xs
    parted ks none = subst (λ zs. Permutes zs []) (sym (no_parts ks)) nil
    parted ks (one {x} {xs} first rest) = trans (once_more x xs first) (skip (parted ks rest))

    own_keys : (xs : List X) → Each (λ x. list_any (same (key x)) (map key xs) ≡ true) xs
    own_keys [] = none
    own_keys (x ∷ xs) = one (ap (λ b. b || list_any (same (key x)) (map key xs)) (test.itself (key x))) (each_weaker _ _ (λ y is. or_right (same (key y) (key x)) (list_any (same (key y)) (map key xs)) is) (own_keys xs))

    module _ (within : K → Bool) where
      same_parts_at : (k : K) (ks : List K) (xs ys : List X) (b : Bool) → within k ≡ b → (within k ≡ true → under k xs ≡ under k ys) → parts (filter within ks) xs ≡ parts (filter within ks) ys → parts (cond b (k ∷ filter within ks) (filter within ks)) xs ≡ parts (cond b (k ∷ filter within ks) (filter within ks)) ys
      same_parts_at k ks xs ys true is first rest = λ i. first is i ++ rest i
      same_parts_at k ks xs ys false is first rest = rest

      same_parts : (ks : List K) (xs ys : List X) → ((k : K) → within k ≡ true → under k xs ≡ under k ys) → parts (filter within ks) xs ≡ parts (filter within ks) ys
      same_parts [] xs ys each = refl
      same_parts (k ∷ ks) xs ys each = same_parts_at k ks xs ys (within k) refl (each k) (same_parts ks xs ys each)

      and_false : (c : Bool) → (c && false) ≡ false
      and_false true = refl
      and_false false = refl

      within_too : (k : K) → within k ≡ true → (x : X) (b : Bool) → same (key x) k ≡ b → (within (key x) && b) ≡ b
      within_too k inside x true is = ap (λ c. c && true) (ap within (test.only (key x) k is) ∙ inside)
      within_too k inside x false is = and_false (within (key x))

      -- the parts under the keys within the range are the elements whose keys are
      parts_within : (xs : List X) → Permutes (parts (filter within (distinct same (map key xs))) xs) (filter (λ x. within (key x)) xs)
      parts_within xs =
          let ys = filter (λ x. within (key x)) xs in
          let each = λ (k : K) (inside : within k ≡ true). (λ i. filter (λ x. sym (within_too k inside x (same (key x) k) refl) i) xs) ∙ filter_both (λ x. same (key x) k) (λ x. within (key x)) xs in
          subst (λ zs. Permutes zs ys) (sym (same_parts (distinct same (map key xs)) xs ys each))
          (parted _ (each_weaker _ _ (λ x (occurs, inside). once_filter within (key x) inside (once_distinct (key x) (map key xs) occurs)) (each_passes _ (λ x. within (key x)) (own_keys xs))))

      -- also where the keys are sorted
      pub sorted_parts_within : (lt : K → K → Bool) (xs : List X) → Permutes (parts (sorted lt (filter within (distinct same (map key xs)))) xs) (filter (λ x. within (key x)) xs)
      sorted_parts_within lt xs = trans (flat_map_permutes (λ k. under k xs) (sorted_permutes lt (filter within (distinct same (map key xs))))) (parts_within xs)
