-- Paths of operands, step by step.
use Rattle.std.proofs.Common.{◌≡◌, ◌∙◌, ℕ, zero, suc, ◌+◌, ◌<◌, List, [], ◌∷◌, ◌++◌, length, take, get_or, refl, sym, ap, Option, Some, None, option_and_then}
use Rattle.std.proofs.lemmas.List.{take_more}
use Rattle.castor_alg.specs.declared.rel.Rel.{Rel, out-Rel}
use Rattle.castor_alg.specs.Places.{at_path, operand}

and_then_nested : {X Y Z : Type 0} (f : Y → Option Z) (g : X → Option Y) (o : Option X) → option_and_then (λ x. option_and_then f (g x)) o ≡ option_and_then f (option_and_then g o)
and_then_nested f g None = refl
and_then_nested f g (Some x) = refl

-- one operand further down
pub at_path-further : (path : List ℕ) (i : ℕ) (q : Rel) → at_path (path ++ i ∷ []) q ≡ option_and_then (λ r. operand i (out-Rel r)) (at_path path q)
at_path-further [] i q = last (operand i (out-Rel q))
  where
    last : (o : Option Rel) → option_and_then (λ r. Some r) o ≡ o
    last None = refl
    last (Some r) = refl
at_path-further (j ∷ path) i q =
    (λ k. option_and_then (λ r. at_path-further path i r k) (operand j (out-Rel q)))
    ∙ and_then_nested (λ r. operand i (out-Rel r)) (at_path path) (operand j (out-Rel q))

-- once more of the path is gone
pub at_path-more : (path : List ℕ) (n i d : ℕ) (q r : Rel) (found : Option Rel) → n < length path → i ≡ get_or path n d → at_path (take n path) q ≡ Some r → found ≡ operand i (out-Rel r) → found ≡ at_path (take (n + 1) path) q
at_path-more path n i d q r found within is here next =
    next
    ∙ sym (ap (option_and_then (λ (r : Rel). operand i (out-Rel r))) here)
    ∙ sym (at_path-further (take n path) i q)
    ∙ sym (ap (λ (steps : List ℕ). at_path steps q) (take_more path n d within ∙ ap (λ (j : ℕ). take n path ++ j ∷ []) (sym is)))

none_below : (at_once at_length : Rel → Option Rel) → ((r : Rel) → at_once r ≡ None → at_length r ≡ None) → (o : Option Rel) → option_and_then at_once o ≡ None → option_and_then at_length o ≡ None
none_below at_once at_length below None is = refl
none_below at_once at_length below (Some r) is = below r is

-- a path leads nowhere where its beginning does
pub at_path-none : (path : List ℕ) (n : ℕ) (q : Rel) → at_path (take n path) q ≡ None → at_path path q ≡ None
at_path-none path zero q is = cc
at_path-none [] (suc n) q is = is
at_path-none (i ∷ path) (suc n) q is = none_below (at_path (take n path)) (at_path path) (λ r. at_path-none path n r) (operand i (out-Rel q)) is
