-- Distinct elements of permuted lists.
use Rattle.std.proofs.Common.{◌≡◌, ◌∙◌, List, [], ◌∷◌, filter, refl, sym, ap, subst, cond, Bool, true, false, ◌&&◌, ◌||◌, not}
use Rattle.std.specs.List.{list_any}
use Rattle.castor_val.specs.declared.row.Row.{Row}
use Rattle.castor_val.specs.Values.{same_row}
use Rattle.castor_val.proofs.OrderLaws.{equal_from_same_row, same_row-refl}
use Rattle.castor_alg.specs.Distinct.{distinct}
use Rattle.castor_alg.specs.Permutation.{Permutes, nil, skip, swap, trans}
use Rattle.castor_laws.proofs.EachLaws.{Each, none, one}
use Rattle.castor_laws.proofs.PermutationLaws.{filter_permutes, permutes_refl}

kept_both : {X : Type 0} (p : X → Bool) (x : X) (b : Bool) (xs ys : List X) → xs ≡ filter p ys → cond (b && p x) (x ∷ xs) xs ≡ filter p (cond b (x ∷ ys) ys)
kept_both p x true xs ys rest = ap (λ zs. cond (p x) (x ∷ zs) zs) rest
kept_both p x false xs ys rest = rest

-- a filter of a filter
pub filter_both : {X : Type 0} (p q : X → Bool) (xs : List X) → filter (λ x. q x && p x) xs ≡ filter p (filter q xs)
filter_both p q [] = refl
filter_both p q (x ∷ xs) = kept_both p x (q x) _ _ (filter_both p q xs)

and_comm : (a b : Bool) → (a && b) ≡ (b && a)
and_comm true true = refl
and_comm true false = refl
and_comm false true = refl
and_comm false false = refl

pub filters_commute : {X : Type 0} (p q : X → Bool) (xs : List X) → filter p (filter q xs) ≡ filter q (filter p xs)
filters_commute p q xs = sym (filter_both p q xs) ∙ (λ i. filter (λ x. and_comm (q x) (p x) i) xs) ∙ filter_both q p xs

-- a test that is true of equal elements alone
pub record IsEqualityTest {X : Type 0} (same : X → X → Bool) : Type 0 where
  pub itself : (a : X) → same a a ≡ true
  pub only : (a b : X) → same a b ≡ true → a ≡ b

pub same_row-IsEqualityTest : IsEqualityTest same_row
same_row-IsEqualityTest = record { itself = same_row-refl; only = equal_from_same_row }

clash : {P : Type 0} (b : Bool) → b ≡ true → b ≡ false → P
clash b is isnt = cc

module _ {X : Type 0} (same : X → X → Bool) (test : IsEqualityTest same) where
  abbrev without : X → List X → List X
  without a xs = filter (λ b. not (same a b)) xs

  agree : (a b : X) (s t : Bool) → same a b ≡ s → same b a ≡ t → s ≡ t
  agree a b true true forth back = refl
  agree a b false false forth back = refl
  agree a b true false forth back = clash (same b a) (subst (λ c. same c a ≡ true) (test.only a b forth) (test.itself a)) back
  agree a b false true forth back = clash (same a b) (subst (λ c. same c b ≡ true) (test.only b a back) (test.itself b)) forth

  pub test_sym : (a b : X) → same a b ≡ same b a
  test_sym a b = agree a b (same a b) (same b a) refl refl

  swapped : (x y : X) (b : Bool) → same x y ≡ b → (ds : List X) → Permutes (x ∷ cond (not b) (y ∷ without x (without y ds)) (without x (without y ds))) (y ∷ cond (not b) (x ∷ without y (without x ds)) (without y (without x ds)))
  swapped x y true is ds = subst (λ z. Permutes (x ∷ without x (without z ds)) (z ∷ without z (without x ds))) (test.only x y is) (permutes_refl _)
  swapped x y false is ds = subst (λ zs. Permutes (x ∷ y ∷ without x (without y ds)) (y ∷ x ∷ zs)) (filters_commute _ _ ds) swap

  pub distinct_permutes : {xs ys : List X} → Permutes xs ys → Permutes (distinct same xs) (distinct same ys)
  distinct_permutes nil = nil
  distinct_permutes (skip {x} p) = skip (filter_permutes (λ b. not (same x b)) (distinct_permutes p))
  distinct_permutes (swap {x} {y} {xs}) = subst (λ b. Permutes (distinct same (x ∷ y ∷ xs)) (y ∷ cond (not b) (x ∷ without y (without x (distinct same xs))) (without y (without x (distinct same xs))))) (test_sym x y) (swapped x y (same x y) refl (distinct same xs))
  distinct_permutes (trans p q) = trans (distinct_permutes p) (distinct_permutes q)

-- the distinct rows of permuted rows
pub distinct_rows_permute : {xs ys : List Row} → Permutes xs ys → Permutes (distinct same_row xs) (distinct same_row ys)
distinct_rows_permute p = distinct_permutes same_row same_row-IsEqualityTest p

-- what holds of each row holds of a row that equals one
module _ (P : Row → Type 0) (key : Row) where
  at_key : (row : Row) (t more : Bool) → same_row key row ≡ t → P row → (t || more) ≡ true → (more ≡ true → P key) → P key
  at_key row true more is here some rest = subst P (sym (equal_from_same_row key row is)) here
  at_key row false more is here some rest = rest some

  pub each_at_key : {rows : List Row} → Each P rows → list_any (same_row key) rows ≡ true → P key
  each_at_key none some = clash false some refl
  each_at_key (one {x} {xs} first rest) some = at_key x (same_row key x) (list_any (same_row key) xs) refl first some (each_at_key rest)
