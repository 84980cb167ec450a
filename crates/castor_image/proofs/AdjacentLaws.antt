-- Lists in which each element is before the next.
use Rattle.std.proofs.Common.{◌≡◌, ◌∙◌, ℕ, ◌<◌, ◌+◌, ◌≤◌, List, [], ◌∷◌, length, get_or, drop, refl, sym, ap, Bool, true, false, ◌&&◌, arith, length-drop}
use Rattle.std.specs.List.{list_all}
use Rattle.std.proofs.lemmas.Bool.{and_parts, and_from}
use Rattle.std.proofs.lemmas.List.{drop_more}
use Rattle.std.specs.Cmp.{IsStrictWeakOrder}
use Rattle.castor_alg.specs.declared.held.Entry.{Entry}
use Rattle.castor_alg.specs.Sorting.{row_lt}
use Rattle.castor_code.specs.Directories.{key_lt, rises}
use Rattle.castor_laws.proofs.SortingLaws.{order-view, rows_order}

clash : {P : Type 0} (b : Bool) → b ≡ true → b ≡ false → P
clash b h k = cc

-- entries are in an order by their keys
pub keys_order : IsStrictWeakOrder key_lt
keys_order = order-view (λ (e : Entry). e.key) row_lt rows_order

-- each is before the next
abbrev pub adjacent : {X : Type 0} → (X → X → Bool) → List X → Bool
adjacent lt [] = true
adjacent lt (x ∷ []) = true
adjacent lt (x ∷ y ∷ xs) = lt x y && adjacent lt (y ∷ xs)

module _ {X : Type 0} (lt : X → X → Bool) where
  -- from one place on: a pair, and then the rest
  pub adjacent-step : (xs : List X) (i j : ℕ) (x y : X) → j ≡ i + 1 → j < length xs → x ≡ get_or xs i x → y ≡ get_or xs j y → adjacent lt (drop i xs) ≡ (lt x y && adjacent lt (drop j xs))
  adjacent-step xs i j x y follows within is is_y =
      let inside : i < length xs = omega arith in
      let here : drop i xs ≡ x ∷ drop j xs = drop_more xs i x inside ∙ ap (λ (z : X). z ∷ drop (i + 1) xs) (sym is) ∙ ap (λ (k : ℕ). x ∷ drop k xs) (sym follows) in
      let there : drop j xs ≡ y ∷ drop (j + 1) xs = drop_more xs j y within ∙ ap (λ (z : X). z ∷ drop (j + 1) xs) (sym is_y) in
      ap (adjacent lt) here ∙ ap (λ (zs : List X). adjacent lt (x ∷ zs)) there ∙ ap (λ (zs : List X). lt x y && adjacent lt zs) (sym there)

  adjacent-short : (xs : List X) → length xs ≤ 1 → adjacent lt xs ≡ true
  adjacent-short [] short = refl
  adjacent-short (x ∷ []) short = refl
  adjacent-short (x ∷ y ∷ xs) short = absurd (omega arith)

  pub adjacent-end : (xs : List X) (i : ℕ) → length xs ≤ i + 1 → adjacent lt (drop i xs) ≡ true
  adjacent-end xs i end = adjacent-short (drop i xs) (let long = length-drop i xs in omega arith)

  module _ (o : IsStrictWeakOrder lt) where
    before_all : (x y : X) → lt x y ≡ true → (z : X) → lt y z ≡ true → lt x z ≡ true
    before_all x y first z second = by (lt x z) refl
      where
        by : (b : Bool) → lt x z ≡ b → b ≡ true
        by true is = refl
        by false is = clash (lt x y) first (o.chain x z y is (o.one_way y z second))

    all_before : (x y : X) → lt x y ≡ true → (xs : List X) → list_all (lt y) xs ≡ true → list_all (lt x) xs ≡ true
    all_before x y first [] all = refl
    all_before x y first (z ∷ xs) all = let tests = and_parts (lt y z) (list_all (lt y) xs) all in and_from _ _ (before_all x y first z tests.0) (all_before x y first xs tests.1)

    twice : (a b c : Bool) → (a ≡ true → c ≡ true → b ≡ true) → ((a && b) && c) ≡ (a && c)
    twice false b c known = refl
    twice true true c known = refl
    twice true false false known = refl
    twice true false true known = known refl refl

    -- each is before all later ones where it is before the next
    pub rises-adjacent : (xs : List X) → rises lt xs ≡ adjacent lt xs
    rises-adjacent [] = refl
    rises-adjacent (x ∷ []) = refl
    rises-adjacent (x ∷ y ∷ xs) =
        twice (lt x y) (list_all (lt x) xs) (rises lt (y ∷ xs)) (λ first rest. all_before x y first xs (and_parts (list_all (lt y) xs) (rises lt xs) rest).0)
        ∙ ap (λ (b : Bool). lt x y && b) (rises-adjacent (y ∷ xs))
