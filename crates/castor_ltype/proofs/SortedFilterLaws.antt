-- Sorting and filtering change places.
use Rattle.std.proofs.Common.{◌≡◌, ◌∙◌, List, ◌∷◌, filter, cond, sym, ap, Bool, true, false}
use Rattle.std.specs.Cmp.{IsStrictWeakOrder}
use Rattle.std.specs.List.Sorted.{ties}
use Rattle.castor_alg.specs.Sorting.{sorted}
use Rattle.castor_laws.proofs.DistinctLaws.{filters_commute}
use Rattle.castor_laws.proofs.SortingLaws.{Above, Up, empty, also, done, next, same_sorted, stable_sorted, up_sorted}

module _ {X : Type 0} (lt : X → X → Bool) (o : IsStrictWeakOrder lt) (within : X → Bool) where
  kept_above : (a x : X) (xs : List X) (b : Bool) → lt x a ≡ false → Above lt o a xs → Above lt o a (cond b (x ∷ xs) xs)
  kept_above a x xs true h u = also h u
  kept_above a x xs false h u = u

  above_filter : (a : X) {xs : List X} → Above lt o a xs → Above lt o a (filter within xs)
  above_filter a empty = empty
  above_filter a (also {x} {xs} h u) = kept_above a x (filter within xs) (within x) h (above_filter a u)

  kept_up : (a : X) (xs : List X) (b : Bool) → Above lt o a xs → Up lt o xs → Up lt o (cond b (a ∷ xs) xs)
  kept_up a xs true u t = next u t
  kept_up a xs false u t = t

  up_filter : {xs : List X} → Up lt o xs → Up lt o (filter within xs)
  up_filter done = done
  up_filter (next {a} {xs} u t) = kept_up a (filter within xs) (within a) (above_filter a u) (up_filter t)

  pub sorted-filter : (xs : List X) → filter within (sorted lt xs) ≡ sorted lt (filter within xs)
  sorted-filter xs =
      same_sorted lt o (up_filter (up_sorted lt o xs)) (up_sorted lt o (filter within xs))
      (λ x. filters_commute (ties lt x) within (sorted lt xs) ∙ ap (filter within) (stable_sorted lt o x xs) ∙ filters_commute within (ties lt x) xs ∙ sym (stable_sorted lt o x (filter within xs)))
