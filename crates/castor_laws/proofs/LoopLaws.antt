-- Two loops change places, and two dependent joins are regrouped.
use Rattle.std.proofs.Common.{◌≡◌, ◌∙◌, List, [], ◌∷◌, ◌++◌, refl, sym, ap, subst, Bool, true, false, ◌||◌, append_assoc}
use Rattle.std.specs.List.{list_any, flat_map}
use Rattle.std.proofs.lemmas.List.Folds.{list_any-append}
use Rattle.castor_val.specs.declared.fault.Faults.{Faults}
use Rattle.castor_val.specs.declared.row.Row.{Row}
use Rattle.castor_val.specs.Values.{union}
use Rattle.castor_val.proofs.FaultLaws.{union_assoc}
use Rattle.castor_alg.specs.declared.out.Out.{Out}
use Rattle.castor_alg.specs.Rows.{depjoined, union_over}
use Rattle.castor_alg.specs.Permutation.{Permutes, nil, trans}
use Rattle.castor_laws.proofs.OutcomeLaws.{outcome_by}
use Rattle.castor_laws.proofs.PermutationLaws.{append_permutes, exchanged, permutes_sym}

empty_each : {X Y : Type 0} (xs : List X) → flat_map {A = Y} (λ (x : X). []) xs ≡ []
empty_each [] = refl
empty_each (x ∷ xs) = empty_each xs

-- a loop with two parts is two loops, one after the other
parts_apart : {X Y : Type 0} (f g : X → List Y) (xs : List X) → Permutes (flat_map (λ x. f x ++ g x) xs) (flat_map f xs ++ flat_map g xs)
parts_apart f g [] = nil
parts_apart f g (x ∷ xs) =
    subst (λ zs. Permutes zs (flat_map f (x ∷ xs) ++ flat_map g (x ∷ xs))) (sym (append_assoc (f x) (g x) (flat_map (λ x. f x ++ g x) xs)))
    (subst (λ zs. Permutes (f x ++ (g x ++ flat_map (λ x. f x ++ g x) xs)) zs) (sym (append_assoc (f x) (flat_map f xs) (g x ++ flat_map g xs)))
    (append_permutes (f x) (trans (append_permutes (g x) (parts_apart f g xs)) (exchanged (g x) (flat_map f xs) (flat_map g xs)))))

pub loops_exchange : {X Y Z : Type 0} (f : X → Y → List Z) (xs : List X) (ys : List Y) → Permutes (flat_map (λ x. flat_map (λ y. f x y) ys) xs) (flat_map (λ y. flat_map (λ x. f x y) xs) ys)
loops_exchange f [] ys = subst (λ zs. Permutes [] zs) (sym (empty_each ys)) nil
loops_exchange f (x ∷ xs) ys = trans (append_permutes (flat_map (f x) ys) (loops_exchange f xs ys)) (permutes_sym (parts_apart (f x) (λ y. flat_map (λ x. f x y) xs) ys))

pub flat_map-append : {X Y : Type 0} (f : X → List Y) (xs ys : List X) → flat_map f (xs ++ ys) ≡ flat_map f xs ++ flat_map f ys
flat_map-append f [] ys = refl
flat_map-append f (x ∷ xs) ys = ap (λ zs. f x ++ zs) (flat_map-append f xs ys) ∙ sym (append_assoc (f x) (flat_map f xs) (flat_map f ys))

pub flat_map-flat_map : {X Y Z : Type 0} (f : X → List Y) (g : Y → List Z) (xs : List X) → flat_map g (flat_map f xs) ≡ flat_map (λ x. flat_map g (f x)) xs
flat_map-flat_map f g [] = refl
flat_map-flat_map f g (x ∷ xs) = flat_map-append g (f x) (flat_map f xs) ∙ ap (λ zs. flat_map g (f x) ++ zs) (flat_map-flat_map f g xs)

or_true : (b : Bool) → (b || true) ≡ true
or_true true = refl
or_true false = refl

middle_exchanged : (a b c d : Bool) → ((a || b) || (c || d)) ≡ ((a || c) || (b || d))
middle_exchanged true b c d = refl
middle_exchanged false b true d = or_true b
middle_exchanged false b false d = refl

-- any of the elements or of what they lead to
any_along : {X Y : Type 0} (p : X → Bool) (f : X → List Y) (q : Y → Bool) (xs : List X) → (list_any p xs || list_any q (flat_map f xs)) ≡ list_any (λ x. p x || list_any q (f x)) xs
any_along p f q [] = refl
any_along p f q (x ∷ xs) =
    ap (λ b. (p x || list_any p xs) || b) (list_any-append q (f x) (flat_map f xs))
    ∙ middle_exchanged (p x) (list_any p xs) (list_any q (f x)) (list_any q (flat_map f xs))
    ∙ ap (λ b. (p x || list_any q (f x)) || b) (any_along p f q xs)

-- the faults of all bodies, and those on all their rows
pub faults_along : {X : Type 0} (body : X → Out) (g : Row → Faults) (xs : List X) → union (union_over (λ a. (body a).faults) xs) (union_over g (flat_map (λ a. (body a).rows) xs)) ≡ union_over (λ a. union (body a).faults (union_over g (body a).rows)) xs
faults_along body g xs = λ i. record {
  division = any_along (λ a. (body a).faults.division) (λ a. (body a).rows) (λ b. (g b).division) xs i;
  overflow = any_along (λ a. (body a).faults.overflow) (λ a. (body a).rows) (λ b. (g b).overflow) xs i;
  norows = any_along (λ a. (body a).faults.norows) (λ a. (body a).rows) (λ b. (g b).norows) xs i;
}

pub dependent_joins_regroup : (inner outer : Row → Out) (r : Out) → depjoined outer (depjoined inner r) ≡ depjoined (λ row. depjoined outer (inner row)) r
dependent_joins_regroup inner outer r =
    outcome_by _ _ (flat_map-flat_map (λ a. (inner a).rows) (λ b. (outer b).rows) r.rows)
    (union_assoc r.faults _ _ ∙ ap (union r.faults) (faults_along inner (λ b. (outer b).faults) r.rows))
