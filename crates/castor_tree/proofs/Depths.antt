-- The depth of a tree, step by step.
use Rattle.std.proofs.Common.{◌≡◌, ℕ, zero, suc, ◌+◌, ◌-◌, ◌<◌, ◌≤◌, List, [], ◌∷◌, length, get_or, max, sym, ap, ◌∙◌, arith}
use Rattle.std.specs.Prelude.{map, fold}
use Rattle.castor_tree.specs.declared.tree.PRel.{PRel, fold-roll-PRel}
use Rattle.castor_tree.specs.declared.tree.PRel.TheVariants as r
use Rattle.castor_tree.specs.declared.tree.PRel.TheOpen as R
use Rattle.castor_tree.specs.Sizes.{deepest, depth, depth_step}

pub depth-Cross : (ps : List PRel) → depth (r.Cross ps) ≡ 1 + deepest (map depth ps)
depth-Cross ps = ap depth (sym (r.rolls-Cross ps)) ∙ fold-roll-PRel ℕ depth_step (R.Cross ps)

pub depth-Concat : (ps : List PRel) → depth (r.Concat ps) ≡ 1 + deepest (map depth ps)
depth-Concat ps = ap depth (sym (r.rolls-Concat ps)) ∙ fold-roll-PRel ℕ depth_step (R.Concat ps)

grows : (a : ℕ) (ds : List ℕ) → a ≤ fold max a ds
grows a [] = omega arith
grows a (d ∷ ds) = omega (arith, grows (max a d) ds)

-- one of a list is no deeper than the deepest
within_deepest : {A : Type 0} (f : A → ℕ) (xs : List A) (a i : ℕ) (x : A) → i < length xs → f (get_or xs i x) ≤ fold max a (map f xs)
within_deepest f [] a i x lt = absurd (omega arith)
within_deepest f (y ∷ ys) a zero x lt = omega (arith, grows (max a (f y)) (map f ys))
within_deepest f (y ∷ ys) a (suc i) x lt = within_deepest f ys (max a (f y)) i x (omega arith)

-- a list is too deep where one of it is
pub too_deep : {A B : Type 0} (f : A → ℕ) (xs : List A) (i : ℕ) (x : A) (limit : ℕ) → i < length xs → x ≡ get_or xs i x → (f x ≤ limit → B) → deepest (map f xs) ≤ limit → B
too_deep f xs i x limit lt is other le =
    let member : f (get_or xs i x) ≤ deepest (map f xs) = within_deepest f xs 0 i x lt in
    let same : f x ≡ f (get_or xs i x) = ap f is in
    other (omega (arith, member, same, le))

-- one level more
pub one_deeper : {B : Type 0} (d e limit : ℕ) → d ≡ 1 + e → (limit ≡ 0 → ⊥) → (B → e ≤ limit - 1) × (e ≤ limit - 1 → B) → (B → d ≤ limit) × (d ≤ limit → B)
one_deeper d e limit is some h = (λ b. let le = h.0 b in omega (arith, is, some, le), λ le. h.1 (omega (arith, is, le)))
