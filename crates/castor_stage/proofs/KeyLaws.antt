-- The keys of an index are distinct and ascending.
use Rattle.std.proofs.Common.{◌≡◌, ◌∙◌, List, [], ◌∷◌, filter, refl, ap, cond, Bool, true, false, not}
use Rattle.std.specs.declared.cmp.Ordering.{Ordering}
use Rattle.std.specs.declared.cmp.Ordering.TheVariants.{Less, Equal, Greater}
use Rattle.std.specs.Cmp.{IsTotalOrder}
use Rattle.std.specs.List.{AllByRecursion, IsDistinct}
use Rattle.std.specs.List.Sorted.{IsStrictlySortedBy}
use Rattle.std.specs.Ordering.{eq_by_cmp, is_lt, ordering_reverse}
use Rattle.castor_alg.specs.Distinct.{distinct}
use Rattle.castor_alg.specs.Sorting.{inserted, sorted}

module _ {X : Type 0} (R : X → X → Ordering) (o : IsTotalOrder R) where
  abbrev lt : X → X → Bool
  lt a b = is_lt (R a b)

  abbrev Apart : X → List X → Type 0
  Apart a xs = AllByRecursion (λ b. eq_by_cmp R a b ≡ false) xs

  all_kept_at : (P : X → Type 0) (x : X) (ys : List X) (t : Bool) → P x → AllByRecursion P ys → AllByRecursion P (cond t (x ∷ ys) ys)
  all_kept_at P x ys true p ps = (p, ps)
  all_kept_at P x ys false p ps = ps

  all_kept : (P : X → Type 0) (f : X → Bool) (xs : List X) → AllByRecursion P xs → AllByRecursion P (filter f xs)
  all_kept P f [] ps = tt
  all_kept P f (x ∷ xs) ps = all_kept_at P x (filter f xs) (f x) ps.0 (all_kept P f xs ps.1)

  apart_at : (a x : X) (ys : List X) (t : Bool) → eq_by_cmp R a x ≡ t → Apart a ys → Apart a (cond (not t) (x ∷ ys) ys)
  apart_at a x ys true e d = d
  apart_at a x ys false e d = (e, d)

  apart_kept : (a : X) (xs : List X) → Apart a (filter (λ b. not (eq_by_cmp R a b)) xs)
  apart_kept a [] = tt
  apart_kept a (x ∷ xs) = apart_at a x _ (eq_by_cmp R a x) refl (apart_kept a xs)

  kept_at : (x : X) (ys : List X) (t : Bool) → Apart x ys → IsDistinct (eq_by_cmp R) ys → IsDistinct (eq_by_cmp R) (cond t (x ∷ ys) ys)
  unfolding IsDistinct
  kept_at x ys true d ds = (d, ds)
  kept_at x ys false d ds = ds

  distinct_kept : (f : X → Bool) (xs : List X) → IsDistinct (eq_by_cmp R) xs → IsDistinct (eq_by_cmp R) (filter f xs)
  unfolding IsDistinct
  distinct_kept f [] ds = tt
  distinct_kept f (x ∷ xs) ds = kept_at x (filter f xs) (f x) (all_kept (λ b. eq_by_cmp R x b ≡ false) f xs ds.0) (distinct_kept f xs ds.1)

  apart_distinct : (xs : List X) → IsDistinct (eq_by_cmp R) (distinct (eq_by_cmp R) xs)
  unfolding IsDistinct
  apart_distinct [] = tt
  apart_distinct (a ∷ xs) = (apart_kept a (distinct (eq_by_cmp R) xs), distinct_kept (λ b. not (eq_by_cmp R a b)) (distinct (eq_by_cmp R) xs) (apart_distinct xs))

  all_inserted_at : (P : X → Type 0) (a b : X) (bs : List X) (t : Bool) → P a → P b → AllByRecursion P bs → AllByRecursion P (inserted lt a bs) → AllByRecursion P (cond t (b ∷ inserted lt a bs) (a ∷ b ∷ bs))
  all_inserted_at P a b bs true p q ps qs = (q, qs)
  all_inserted_at P a b bs false p q ps qs = (p, (q, ps))

  all_inserted : (P : X → Type 0) (a : X) (xs : List X) → P a → AllByRecursion P xs → AllByRecursion P (inserted lt a xs)
  all_inserted P a [] p ps = (p, tt)
  all_inserted P a (b ∷ bs) p ps = all_inserted_at P a b bs (lt b a) p ps.0 ps.1 (all_inserted P a bs p ps.1)

  all_sorted : (P : X → Type 0) (xs : List X) → AllByRecursion P xs → AllByRecursion P (sorted lt xs)
  all_sorted P [] ps = tt
  all_sorted P (a ∷ xs) ps = all_inserted P a (sorted lt xs) ps.0 (all_sorted P xs ps.1)

  abbrev Behind : X → List X → Type 0
  Behind a xs = AllByRecursion (λ b. R a b ≡ Less) xs

  behind_chain : (a b : X) (xs : List X) → R a b ≡ Less → Behind b xs → Behind a xs
  behind_chain a b [] l bs = tt
  behind_chain a b (x ∷ xs) l bs = (o.trans a b x l bs.0, behind_chain a b xs l bs.1)

  tie_back : (a b : X) → R b a ≡ Equal → eq_by_cmp R a b ≡ false → ⊥
  tie_back a b e d = let tied : R a b ≡ Equal = o.antisymm a b ∙ ap ordering_reverse e in cc

  less_back : (a b : X) → R b a ≡ Greater → R a b ≡ Less
  less_back a b e = o.antisymm a b ∙ ap ordering_reverse e

  strict_inserted_at : (a b : X) (bs : List X) (r : Ordering) → R b a ≡ r → eq_by_cmp R a b ≡ false → Behind b bs → IsStrictlySortedBy R bs → IsStrictlySortedBy R (inserted lt a bs) → IsStrictlySortedBy R (cond (is_lt r) (b ∷ inserted lt a bs) (a ∷ b ∷ bs))
  unfolding IsStrictlySortedBy
  strict_inserted_at a b bs Less e d u s t = (all_inserted (λ y. R b y ≡ Less) a bs e u, t)
  strict_inserted_at a b bs Equal e d u s t = absurd (tie_back a b e d)
  strict_inserted_at a b bs Greater e d u s t = let l = less_back a b e in ((l, behind_chain a b bs l u), (u, s))

  strict_inserted : (a : X) (xs : List X) → Apart a xs → IsStrictlySortedBy R xs → IsStrictlySortedBy R (inserted lt a xs)
  unfolding IsStrictlySortedBy
  strict_inserted a [] d s = (tt, tt)
  strict_inserted a (b ∷ bs) d s = strict_inserted_at a b bs (R b a) refl d.0 s.0 s.1 (strict_inserted a bs d.1 s.1)

  strict_sorted : (xs : List X) → IsDistinct (eq_by_cmp R) xs → IsStrictlySortedBy R (sorted lt xs)
  unfolding IsDistinct IsStrictlySortedBy
  strict_sorted [] ds = tt
  strict_sorted (a ∷ xs) ds = strict_inserted a (sorted lt xs) (all_sorted (λ b. eq_by_cmp R a b ≡ false) xs ds.0) (strict_sorted xs ds.1)

  -- the distinct elements, sorted
  pub strict_keys : (xs : List X) → IsStrictlySortedBy R (sorted lt (distinct (eq_by_cmp R) xs))
  strict_keys xs = strict_sorted (distinct (eq_by_cmp R) xs) (apart_distinct xs)
