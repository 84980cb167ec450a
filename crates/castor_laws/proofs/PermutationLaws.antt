-- What list operations make of permuted lists.
use Rattle.std.proofs.Common.{◌≡◌, ◌∙◌, List, [], ◌∷◌, ◌++◌, filter, map, length, fold, refl, ap, suc, cond, Bool, true, false, ◌||◌}
use Rattle.std.specs.Prelude.{IsPermutation}
use Rattle.std.specs.List.{list_any, flat_map}
use Rattle.std.proofs.lemmas.List.Sorted.{IsPermutation-refl, IsPermutation-cons, IsPermutation-swap, IsPermutation-trans}
use Rattle.std.proofs.Common.{arith}
use Rattle.castor_val.specs.declared.fault.Faults.{Faults}
use Rattle.castor_alg.specs.Rows.{union_over}
use Rattle.castor_alg.specs.Permutation.{Permutes, nil, skip, swap, trans}
use Rattle.castor_laws.proofs.EachLaws.{Each, none, one}

pub permutes_refl : {X : Type 0} (xs : List X) → Permutes xs xs
permutes_refl [] = nil
permutes_refl (x ∷ xs) = skip (permutes_refl xs)

pub permutes_sym : {X : Type 0} {xs ys : List X} → Permutes xs ys → Permutes ys xs
permutes_sym nil = nil
permutes_sym (skip p) = skip (permutes_sym p)
permutes_sym swap = swap
permutes_sym (trans p q) = trans (permutes_sym q) (permutes_sym p)

-- as std says it
pub permutes-IsPermutation : {X : Type 0} {xs ys : List X} → Permutes xs ys → IsPermutation xs ys
permutes-IsPermutation nil = IsPermutation-refl []
permutes-IsPermutation (skip {x} {xs} {ys} p) = IsPermutation-cons x xs ys (permutes-IsPermutation p)
permutes-IsPermutation (swap {x} {y} {xs}) = IsPermutation-swap (x ∷ y ∷ xs) (y ∷ x ∷ xs) 0 1 (omega arith) (omega arith) refl
permutes-IsPermutation (trans {xs} {ys} {zs} p q) = IsPermutation-trans xs ys zs (permutes-IsPermutation p) (permutes-IsPermutation q)

pub append_permutes : {X : Type 0} (us : List X) {xs ys : List X} → Permutes xs ys → Permutes (us ++ xs) (us ++ ys)
append_permutes [] p = p
append_permutes (u ∷ us) p = skip (append_permutes us p)

pub permutes_append : {X : Type 0} (zs : List X) {xs ys : List X} → Permutes xs ys → Permutes (xs ++ zs) (ys ++ zs)
permutes_append zs nil = permutes_refl zs
permutes_append zs (skip p) = skip (permutes_append zs p)
permutes_append zs swap = swap
permutes_append zs (trans p q) = trans (permutes_append zs p) (permutes_append zs q)

-- one element moves behind a list
pub moved_behind : {X : Type 0} (x : X) (us bs : List X) → Permutes (x ∷ (us ++ bs)) (us ++ x ∷ bs)
moved_behind x [] bs = permutes_refl (x ∷ bs)
moved_behind x (u ∷ us) bs = trans swap (skip (moved_behind x us bs))

-- two lists change places
pub exchanged : {X : Type 0} (us bs zs : List X) → Permutes (us ++ (bs ++ zs)) (bs ++ (us ++ zs))
exchanged [] bs zs = permutes_refl (bs ++ zs)
exchanged (u ∷ us) bs zs = trans (skip (exchanged us bs zs)) (moved_behind u bs (us ++ zs))

pub map_permutes : {X Y : Type 0} (f : X → Y) {xs ys : List X} → Permutes xs ys → Permutes (map f xs) (map f ys)
map_permutes f nil = nil
map_permutes f (skip p) = skip (map_permutes f p)
map_permutes f swap = swap
map_permutes f (trans p q) = trans (map_permutes f p) (map_permutes f q)

pub flat_map_permutes : {X Y : Type 0} (f : X → List Y) {xs ys : List X} → Permutes xs ys → Permutes (flat_map f xs) (flat_map f ys)
flat_map_permutes f nil = nil
flat_map_permutes f (skip {x} p) = append_permutes (f x) (flat_map_permutes f p)
flat_map_permutes f (swap {x} {y} {xs}) = exchanged (f x) (f y) (flat_map f xs)
flat_map_permutes f (trans p q) = trans (flat_map_permutes f p) (flat_map_permutes f q)

-- where the function gives permuted lists on each element
pub flat_map_each : {X Y : Type 0} (f g : X → List Y) {xs : List X} → Each (λ x. Permutes (f x) (g x)) xs → Permutes (flat_map f xs) (flat_map g xs)
flat_map_each f g none = nil
flat_map_each f g (one {x} {xs} first rest) = trans (append_permutes (f x) (flat_map_each f g rest)) (permutes_append (flat_map g xs) first)

kept : {X : Type 0} (x : X) (b : Bool) {xs ys : List X} → Permutes xs ys → Permutes (cond b (x ∷ xs) xs) (cond b (x ∷ ys) ys)
kept x true p = skip p
kept x false p = p

kept_both : {X : Type 0} (x y : X) (a b : Bool) (xs : List X) → Permutes (cond a (x ∷ cond b (y ∷ xs) xs) (cond b (y ∷ xs) xs)) (cond b (y ∷ cond a (x ∷ xs) xs) (cond a (x ∷ xs) xs))
kept_both x y true true xs = swap
kept_both x y true false xs = permutes_refl (x ∷ xs)
kept_both x y false true xs = permutes_refl (y ∷ xs)
kept_both x y false false xs = permutes_refl xs

pub filter_permutes : {X : Type 0} (p : X → Bool) {xs ys : List X} → Permutes xs ys → Permutes (filter p xs) (filter p ys)
filter_permutes p nil = nil
filter_permutes p (skip {x} h) = kept x (p x) (filter_permutes p h)
filter_permutes p (swap {x} {y} {xs}) = kept_both x y (p x) (p y) (filter p xs)
filter_permutes p (trans h k) = trans (filter_permutes p h) (filter_permutes p k)

or_exchanged : (a b c : Bool) → (a || (b || c)) ≡ (b || (a || c))
or_exchanged true true c = refl
or_exchanged true false c = refl
or_exchanged false b c = refl

pub list_any-permutes : {X : Type 0} (p : X → Bool) {xs ys : List X} → Permutes xs ys → list_any p xs ≡ list_any p ys
list_any-permutes p nil = refl
list_any-permutes p (skip {x} h) = ap (λ b. p x || b) (list_any-permutes p h)
list_any-permutes p (swap {x} {y} {xs}) = or_exchanged (p x) (p y) (list_any p xs)
list_any-permutes p (trans h k) = list_any-permutes p h ∙ list_any-permutes p k

pub union_over-permutes : {X : Type 0} (f : X → Faults) {xs ys : List X} → Permutes xs ys → union_over f xs ≡ union_over f ys
union_over-permutes f h = λ i. record {
  division = list_any-permutes (λ x. (f x).division) h i;
  overflow = list_any-permutes (λ x. (f x).overflow) h i;
  norows = list_any-permutes (λ x. (f x).norows) h i;
}

pub length-permutes : {X : Type 0} {xs ys : List X} → Permutes xs ys → length xs ≡ length ys
length-permutes nil = refl
length-permutes (skip p) = ap suc (length-permutes p)
length-permutes swap = refl
length-permutes (trans p q) = length-permutes p ∙ length-permutes q

-- a fold in which two steps may change places
pub fold-permutes : {A X : Type 0} (f : A → X → A) → ((a : A) (x y : X) → f (f a x) y ≡ f (f a y) x) → {xs ys : List X} → Permutes xs ys → (a : A) → fold f a xs ≡ fold f a ys
fold-permutes f exchange nil a = refl
fold-permutes f exchange (skip {x} p) a = fold-permutes f exchange p (f a x)
fold-permutes f exchange (swap {x} {y} {xs}) a = ap (λ b. fold f b xs) (exchange a x y)
fold-permutes f exchange (trans p q) a = fold-permutes f exchange p a ∙ fold-permutes f exchange q a

-- what holds of each element still does
pub each_permutes : {X : Type 0} (P : X → Type 0) {xs ys : List X} → Permutes xs ys → Each P xs → Each P ys
each_permutes P nil none = none
each_permutes P (skip p) (one first rest) = one first (each_permutes P p rest)
each_permutes P swap (one first (one second rest)) = one second (one first rest)
each_permutes P (trans p q) all = each_permutes P q (each_permutes P p all)
