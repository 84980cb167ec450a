-- A stable sort by an order has one result, so std's sort gives the sorted list of the definition.
use Rattle.std.proofs.Common.{◌≡◌, ◌∙◌, ℕ, suc, ◌<◌, ◌+◌, List, [], ◌∷◌, length, get_or, filter, map, refl, sym, ap, subst, cond, Bool, true, false, ◌&&◌, not, arith}
use Rattle.std.specs.Cmp.{IsStrictWeakOrder, IsTotalOrder}
use Rattle.std.specs.declared.cmp.Ordering.TheVariants.{Equal}
use Rattle.std.specs.Ordering.{is_lt}
use Rattle.std.proofs.lemmas.Cmp.{on_total, then_total, back_total}
use Rattle.std.specs.List.Sorted.{IsSortedBy, IsStableBy, ties}
use Rattle.std.proofs.lemmas.List.Sorted.{ranks_by, sorted_far}
use Rattle.castor_val.specs.declared.row.Row.{Row}
use Rattle.castor_val.specs.Values.{column, value_cmp}
use Rattle.castor_val.proofs.OrderLaws.{row_order, value_order}
use Rattle.castor_alg.specs.declared.rel.Key.{Key}
use Rattle.castor_alg.specs.Sorting.{by_keys, inserted, row_lt, sorted}

clash : {P : Type 0} (b : Bool) → b ≡ true → b ≡ false → P
clash b h k = cc

module _ {X : Type 0} (lt : X → X → Bool) (o : IsStrictWeakOrder lt) where
  -- no element comes before a
  pub data Above (a : X) : List X → Type 0 where
    empty : Above a []
    also : {x : X} {xs : List X} → lt x a ≡ false → Above a xs → Above a (x ∷ xs)

  pub data Up : List X → Type 0 where
    done : Up []
    next : {a : X} {xs : List X} → Above a xs → Up xs → Up (a ∷ xs)

  not_self_at : (a : X) (b : Bool) → lt a a ≡ b → b ≡ false
  not_self_at a true e = clash (lt a a) e (o.one_way a a e)
  not_self_at a false e = refl

  not_self : (a : X) → lt a a ≡ false
  not_self a = not_self_at a (lt a a) refl

  both_not : (a b : Bool) → a ≡ false → b ≡ false → (not a && not b) ≡ true
  both_not true b h k = cc
  both_not false true h k = cc
  both_not false false h k = refl

  left_not : (a b : Bool) → (not a && not b) ≡ true → a ≡ false
  left_not true b h = cc
  left_not false b h = refl

  right_not : (a b : Bool) → (not a && not b) ≡ true → b ≡ false
  right_not true b h = cc
  right_not false true h = cc
  right_not false false h = refl

  abbrev FirstOf : (X → Bool) → X → Type 0
  FirstOf p b = (y : X) × (lt y b ≡ false) × (p y ≡ true)

  some_at : (p : X → Bool) (b x a : X) (fs zs : List X) (t : Bool) → p x ≡ t → lt x b ≡ false → cond t (x ∷ fs) fs ≡ a ∷ zs → (fs ≡ a ∷ zs → FirstOf p b) → FirstOf p b
  some_at p b x a fs zs true e l h k = (x, l, e)
  some_at p b x a fs zs false e l h k = k h

  some_first : (p : X → Bool) (b : X) {ys : List X} → Above b ys → (a : X) (zs : List X) → filter p ys ≡ a ∷ zs → FirstOf p b
  some_first p b empty a zs h = cc
  some_first p b (also {x} {xs} l u) a zs h = some_at p b x a (filter p xs) zs (p x) refl l h (some_first p b u a zs)

  not_before : (a b : X) (xs ys : List X) → Above b ys → filter (ties lt a) (a ∷ xs) ≡ filter (ties lt a) (b ∷ ys) → lt a b ≡ false
  not_before a b xs ys v e =
      let tie = both_not (lt a a) (lt a a) (not_self a) (not_self a) in
      let (y, l, t) = some_first (ties lt a) b (also (not_self b) v) a (filter (ties lt a) xs) (sym e ∙ ap (λ c. cond c (a ∷ filter (ties lt a) xs) (filter (ties lt a) xs)) tie) in
      o.chain a y b (left_not (lt a y) (lt y a) t) l

  heads : (a b : X) (xs ys : List X) (s t : Bool) → s ≡ true → t ≡ true → cond s (a ∷ xs) xs ≡ cond t (b ∷ ys) ys → a ≡ b
  heads a b xs ys true true h k e = cc
  heads a b xs ys true false h k e = cc
  heads a b xs ys false t h k e = cc

  tails : (a : X) (xs ys : List X) (t : Bool) → cond t (a ∷ xs) xs ≡ cond t (a ∷ ys) ys → xs ≡ ys
  tails a xs ys true e = cc
  tails a xs ys false e = e

  pub same_sorted : {xs ys : List X} → Up xs → Up ys → ((x : X) → filter (ties lt x) xs ≡ filter (ties lt x) ys) → xs ≡ ys
  same_sorted done done e = refl
  same_sorted done (next {a = b} {xs = ys} v w) e = let h = sym (ap (λ c. cond c (b ∷ filter (ties lt b) ys) (filter (ties lt b) ys)) (both_not (lt b b) (lt b b) (not_self b) (not_self b))) ∙ sym (e b) in cc
  same_sorted (next {a} {xs} u t) done e = let h = sym (ap (λ c. cond c (a ∷ filter (ties lt a) xs) (filter (ties lt a) xs)) (both_not (lt a a) (lt a a) (not_self a) (not_self a))) ∙ e a in cc
  same_sorted (next {a} {xs} u t) (next {a = b} {xs = ys} v w) e =
      let ab = not_before a b xs ys v (e a) in
      let ba = not_before b a ys xs u (sym (e b)) in
      let is = heads a b _ _ (ties lt a a) (ties lt a b) (both_not _ _ (not_self a) (not_self a)) (both_not _ _ ab ba) (e a) in
      let rest = same_sorted t w (λ x. tails a _ _ (ties lt x a) (e x ∙ ap (λ c. filter (ties lt x) (c ∷ ys)) (sym is))) in
      (λ i. is i ∷ rest i)

  above_chain : (a b : X) {xs : List X} → lt b a ≡ false → Above b xs → Above a xs
  above_chain a b l empty = empty
  above_chain a b l (also {x} h u) = also (o.chain x b a h l) (above_chain a b l u)

  above_inserted_at : (a b x : X) (xs : List X) (t : Bool) → lt a b ≡ false → lt x b ≡ false → Above b xs → Above b (inserted lt a xs) → Above b (cond t (x ∷ inserted lt a xs) (a ∷ x ∷ xs))
  above_inserted_at a b x xs true l h u r = also h r
  above_inserted_at a b x xs false l h u r = also l (also h u)

  above_inserted : (a b : X) {xs : List X} → lt a b ≡ false → Above b xs → Above b (inserted lt a xs)
  above_inserted a b l empty = also l empty
  above_inserted a b l (also {x} {xs} h u) = above_inserted_at a b x xs (lt x a) l h u (above_inserted a b l u)

  up_inserted_at : (a b : X) (bs : List X) (t : Bool) → lt b a ≡ t → Above b bs → Up bs → Up (inserted lt a bs) → Up (cond t (b ∷ inserted lt a bs) (a ∷ b ∷ bs))
  up_inserted_at a b bs true e u v r = next (above_inserted a b (o.one_way b a e) u) r
  up_inserted_at a b bs false e u v r = next (also e (above_chain a b e u)) (next u v)

  up_inserted : (a : X) {xs : List X} → Up xs → Up (inserted lt a xs)
  up_inserted a done = next empty done
  up_inserted a (next {a = b} {xs = bs} u v) = up_inserted_at a b bs (lt b a) refl u v (up_inserted a v)

  pub up_sorted : (xs : List X) → Up (sorted lt xs)
  up_sorted [] = done
  up_sorted (a ∷ xs) = up_inserted a (up_sorted xs)

  -- an element passes only what does not tie with it
  passed : (a b : X) (fs gs : List X) (s t : Bool) → gs ≡ cond s (a ∷ fs) fs → (s ≡ true → t ≡ true → ⊥) → cond t (b ∷ gs) gs ≡ cond s (a ∷ cond t (b ∷ fs) fs) (cond t (b ∷ fs) fs)
  passed a b fs gs true true e h = absurd (h refl refl)
  passed a b fs gs true false e h = e
  passed a b fs gs false true e h = ap (λ zs. b ∷ zs) e
  passed a b fs gs false false e h = e

  stable_at : (x a b : X) (bs : List X) (t : Bool) → lt b a ≡ t → filter (ties lt x) (inserted lt a bs) ≡ filter (ties lt x) (a ∷ bs) → filter (ties lt x) (cond t (b ∷ inserted lt a bs) (a ∷ b ∷ bs)) ≡ filter (ties lt x) (a ∷ b ∷ bs)
  stable_at x a b bs true e h = passed a b (filter (ties lt x) bs) _ (ties lt x a) (ties lt x b) h (λ s t. clash (lt b a) e (o.chain b x a (right_not (lt x b) (lt b x) t) (left_not (lt x a) (lt a x) s)))
  stable_at x a b bs false e h = refl

  stable_inserted : (x a : X) (xs : List X) → filter (ties lt x) (inserted lt a xs) ≡ filter (ties lt x) (a ∷ xs)
  stable_inserted x a [] = refl
  stable_inserted x a (b ∷ bs) = stable_at x a b bs (lt b a) refl (stable_inserted x a bs)

  pub stable_sorted : (x : X) (xs : List X) → filter (ties lt x) (sorted lt xs) ≡ filter (ties lt x) xs
  stable_sorted x [] = refl
  stable_sorted x (a ∷ xs) = stable_inserted x a (sorted lt xs) ∙ ap (λ zs. cond (ties lt x a) (a ∷ zs) zs) (stable_sorted x xs)

  above_from : (a : X) (xs : List X) → ((k : ℕ) (d : X) → k < length xs → lt (get_or xs k d) a ≡ false) → Above a xs
  above_from a [] h = empty
  above_from a (x ∷ xs) h = also (h 0 x (omega arith)) (above_from a xs (λ k d l. h (suc k) d (omega arith)))

  up_from : (xs : List X) → IsSortedBy lt xs → Up xs
  up_from [] h = done
  up_from (a ∷ xs) h =
      next (above_from a xs (λ k d l. sorted_far lt o (a ∷ xs) h 0 (suc k) d (omega arith) (omega arith)))
      (up_from xs (λ k d l m.
      let n : suc k + 1 ≡ suc (k + 1) = omega arith in
      let at = h (suc k) d (omega arith) (omega arith) in
      subst (λ (j : ℕ). lt (get_or (a ∷ xs) j d) (get_or xs k d) ≡ false) n at))

  -- what a stable sort of std gives
  pub sorted_is : (xs ys : List X) → IsSortedBy lt ys → IsStableBy lt xs ys → ys ≡ sorted lt xs
  sorted_is xs ys h s = same_sorted (up_from ys h) (up_sorted xs) (λ x. s x ∙ sym (stable_sorted x xs))

-- the order of rows by keys
by_key_total : (col : ℕ) (desc : Bool) → IsTotalOrder (λ (a b : Row). cond desc (value_cmp (column b col) (column a col)) (value_cmp (column a col) (column b col)))
by_key_total col true = back_total (on_total (λ (a : Row). column a col) value_order.total)
by_key_total col false = on_total (λ (a : Row). column a col) value_order.total

all_tied : IsTotalOrder (λ (a b : Row). Equal)
all_tied = record { antisymm = λ x y. refl; trans = λ x y z h k. cc; congr = λ x y z h. refl }

by_keys_total : (ks : List Key) → IsTotalOrder (by_keys ks)
by_keys_total [] = all_tied
by_keys_total (k ∷ ks) = then_total (by_key_total k.col k.desc) (by_keys_total ks)

pub keys_order : (ks : List Key) → IsStrictWeakOrder (λ a b. is_lt (by_keys ks a b))
keys_order ks = ranks_by (by_keys_total ks) (λ (a : Row). a)

-- the order of whole rows
pub rows_order : IsStrictWeakOrder row_lt
rows_order = ranks_by row_order.total (λ (a : Row). a)

-- an order of what elements stand for is one of the elements
pub order-view : {A B : Type 0} (view : A → B) (lt : B → B → Bool) → IsStrictWeakOrder lt → IsStrictWeakOrder (λ a b. lt (view a) (view b))
order-view view lt o = record { one_way = λ a b. o.one_way (view a) (view b); chain = λ a b c. o.chain (view a) (view b) (view c) }

module _ {A B : Type 0} (view : A → B) (lt : B → B → Bool) where
  inserted_at : (a b : A) (bs : List A) (c : Bool) → map view (inserted (λ x y. lt (view x) (view y)) a bs) ≡ inserted lt (view a) (map view bs)
      → map view (cond c (b ∷ inserted (λ x y. lt (view x) (view y)) a bs) (a ∷ b ∷ bs)) ≡ cond c (view b ∷ inserted lt (view a) (map view bs)) (view a ∷ view b ∷ map view bs)
  inserted_at a b bs true e = ap (λ ys. view b ∷ ys) e
  inserted_at a b bs false e = refl

  inserted-view : (a : A) (xs : List A) → map view (inserted (λ x y. lt (view x) (view y)) a xs) ≡ inserted lt (view a) (map view xs)
  inserted-view a [] = refl
  inserted-view a (b ∷ bs) = inserted_at a b bs (lt (view b) (view a)) (inserted-view a bs)

  -- what is sorted by what it stands for
  pub sorted-view : (xs : List A) → map view (sorted (λ x y. lt (view x) (view y)) xs) ≡ sorted lt (map view xs)
  sorted-view [] = refl
  sorted-view (a ∷ xs) = inserted-view a (sorted (λ x y. lt (view x) (view y)) xs) ∙ ap (inserted lt (view a)) (sorted-view xs)
