-- Rows of cells in the place of the rows that they stand for.
use Rattle.std.proofs.Common.{◌≡◌, ◌∙◌, ℕ, ◌<◌, ◌+◌, List, [], ◌∷◌, ◌++◌, length, map, take, get_or, refl, sym, ap, cond, Bool, true, false, arith}
use Rattle.std.specs.List.{flat_map}
use Rattle.std.proofs.lemmas.List.{get_or-map, length-map, map-append, take_more}
use Rattle.castor_val.specs.declared.fault.Faults.{Faults}
use Rattle.castor_val.specs.Values.{union}
use Rattle.castor_val.proofs.FaultLaws.{union_assoc}
use Rattle.castor_alg.specs.Rows.{union_over}
use Rattle.castor_eval.proofs.LoopLaws.{flat_map-more, union_over-more}
use Rattle.castor_eval.specs.Marks.{marked}

-- an element that stands at a place, and what it stands for
pub at-view : {A B : Type 0} (view : A → B) (xs : List A) (i : ℕ) (x : A) → i < length xs → x ≡ get_or xs i x → view x ≡ get_or (map view xs) i (view x)
at-view view xs i x h at = ap view at ∙ sym (get_or-map view xs i x (view x) h)

pub below-view : {A B : Type 0} (view : A → B) (xs : List A) (i : ℕ) → i < length xs → i < length (map view xs)
below-view view xs i h = omega (arith, h, length-map xs view)

marked_at : {A B : Type 0} (view : A → B) (b : Bool) (x : A) (us : List A) (vs : List B) → map view us ≡ vs → map view (cond b (x ∷ us) us) ≡ cond b (view x ∷ vs) vs
marked_at view true x us vs e = ap (λ ys. view x ∷ ys) e
marked_at view false x us vs e = e

-- what the marked elements stand for
pub marked-view : {A B : Type 0} (view : A → B) (marks : List Bool) (xs : List A) → map view (marked marks xs) ≡ marked marks (map view xs)
marked-view view [] xs = refl
marked-view view (b ∷ marks) [] = refl
marked-view view (b ∷ marks) (x ∷ xs) = marked_at view b x (marked marks xs) (marked marks (map view xs)) (marked-view view marks xs)

-- one more element of a list each of which is mapped
pub mapped-more : {A B : Type 0} (f : A → B) (xs : List A) (i : ℕ) (x : A) (done done' : List B) (y : B) → i < length xs → x ≡ get_or xs i x → done ≡ map f (take i xs) → y ≡ f x → done' ≡ done ++ y ∷ [] → done' ≡ map f (take (i + 1) xs)
mapped-more f xs i x done done' y h at d is e =
    e ∙ (λ j. d j ++ is j ∷ [])
    ∙ sym (map-append f (take i xs) (x ∷ []))
    ∙ ap (map f) (sym (take_more xs i x h ∙ ap (λ z. take i xs ++ z ∷ []) (sym at)))

-- one more element of a list each of which gives a list
pub flat-more : {A B : Type 0} (f : A → List B) (xs : List A) (i : ℕ) (x : A) (done done' more : List B) → i < length xs → x ≡ get_or xs i x → done ≡ flat_map f (take i xs) → more ≡ f x → done' ≡ done ++ more → done' ≡ flat_map f (take (i + 1) xs)
flat-more f xs i x done done' more h at d is e = e ∙ (λ j. d j ++ is j) ∙ sym (flat_map-more f xs i x h at)

-- the faults of one more element
pub faults-more : {A : Type 0} (f : A → Faults) (xs : List A) (i : ℕ) (x : A) (met met' more : Faults) → i < length xs → x ≡ get_or xs i x → met ≡ union_over f (take i xs) → more ≡ f x → met' ≡ union met more → met' ≡ union_over f (take (i + 1) xs)
faults-more f xs i x met met' more h at d is e = e ∙ (λ j. union (d j) (is j)) ∙ sym (union_over-more f xs i x h at)

-- the same, besides the faults that were met before
pub faults-beside : {A : Type 0} (f : A → Faults) (xs : List A) (i : ℕ) (x : A) (first met met' more : Faults) → i < length xs → x ≡ get_or xs i x → met ≡ union first (union_over f (take i xs)) → more ≡ f x → met' ≡ union met more → met' ≡ union first (union_over f (take (i + 1) xs))
faults-beside f xs i x first met met' more h at d is e =
    e ∙ (λ j. union (d j) (is j)) ∙ union_assoc first (union_over f (take i xs)) (f x) ∙ ap (union first) (sym (union_over-more f xs i x h at))

-- the front of a list of what elements stand for, with one more element
pub taken-view : {A B : Type 0} (view : A → B) (xs : List A) (i : ℕ) (x : A) → i < length xs → x ≡ get_or xs i x → take i (map view xs) ++ view x ∷ [] ≡ take (i + 1) (map view xs)
taken-view view xs i x h at = sym (take_more (map view xs) i (view x) (below-view view xs i h) ∙ ap (λ y. take i (map view xs) ++ y ∷ []) (sym (at-view view xs i x h at)))
