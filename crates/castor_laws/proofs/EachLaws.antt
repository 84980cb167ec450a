-- What holds of each element of a list.
use Rattle.std.proofs.Common.{List, [], ◌∷◌, ◌++◌, map, filter, cond, Bool, true, false, not}
use Rattle.std.specs.Prelude.{All}
use Rattle.std.specs.List.{flat_map}
use Rattle.std.proofs.lemmas.List.Elements.{All-cons, All-head, All-nil, All-tail}
use Rattle.castor_alg.specs.Distinct.{distinct}

-- P holds of each element
pub data Each {X : Type 0} (P : X → Type 0) : List X → Type 0 where
  none : Each P []
  one : {x : X} {xs : List X} → P x → Each P xs → Each P (x ∷ xs)

module _ {X : Type 0} (P : X → Type 0) where
  pub each_all : ((x : X) → P x) → (xs : List X) → Each P xs
  each_all holds [] = none
  each_all holds (x ∷ xs) = one (holds x) (each_all holds xs)

  pub each_weaker : (Q : X → Type 0) → ((x : X) → P x → Q x) → {xs : List X} → Each P xs → Each Q xs
  each_weaker Q weaker none = none
  each_weaker Q weaker (one {x} first rest) = one (weaker x first) (each_weaker Q weaker rest)

  pub each_append : {xs ys : List X} → Each P xs → Each P ys → Each P (xs ++ ys)
  each_append none others = others
  each_append (one first rest) others = one first (each_append rest others)

  pub each_map : {Y : Type 0} (f : Y → X) {ys : List Y} → Each (λ y. P (f y)) ys → Each P (map f ys)
  each_map f none = none
  each_map f (one first rest) = one first (each_map f rest)

  pub each_flat_map : {Y : Type 0} (f : Y → List X) {ys : List Y} → Each (λ y. Each P (f y)) ys → Each P (flat_map f ys)
  each_flat_map f none = none
  each_flat_map f (one first rest) = each_append first (each_flat_map f rest)

  kept : (x : X) (xs : List X) (b : Bool) → P x → Each P xs → Each P (cond b (x ∷ xs) xs)
  kept x xs true first rest = one first rest
  kept x xs false first rest = rest

  pub each_filter : (p : X → Bool) {xs : List X} → Each P xs → Each P (filter p xs)
  each_filter p none = none
  each_filter p (one {x} {xs} first rest) = kept x (filter p xs) (p x) first (each_filter p rest)

  pub each_distinct : (same : X → X → Bool) {xs : List X} → Each P xs → Each P (distinct same xs)
  each_distinct same none = none
  each_distinct same (one {x} first rest) = one first (each_filter (λ y. not (same x y)) (each_distinct same rest))

  -- as std says it
  pub each_from_All : (xs : List X) → All P xs → Each P xs
  each_from_All [] all = none
  each_from_All (x ∷ xs) all = one (All-head P x xs all) (each_from_All xs (All-tail P x xs all))

  pub All_from_each : (xs : List X) → Each P xs → All P xs
  All_from_each [] none = All-nil P
  All_from_each (x ∷ xs) (one first rest) = All-cons P x xs first (All_from_each xs rest)
