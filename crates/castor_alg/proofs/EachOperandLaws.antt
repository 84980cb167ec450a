-- The operands of a combination or a concatenation, of which one is rewritten.
use Rattle.std.proofs.Common.{◌≡◌, ℕ, zero, suc, ◌+◌, List, [], ◌∷◌, ◌++◌, refl, ap, Some, None, take, drop, slice_get, length, IfOk, Result, Ok, subst, ◌-◌, sym, ◌∙◌, arith}
use Rattle.std.proofs.lemmas.List.{take_rest}
use Rattle.castor_alg.specs.declared.rel.Rel.{Rel}
use Rattle.castor_alg.specs.Places.{on_each}

-- they are those before it, what it becomes, and those behind it
pub on_each-parts : (n : ℕ) (f : Rel → Rel) (rs : List Rel) (r : Rel) → slice_get rs n ≡ Some r → on_each n f rs ≡ take n rs ++ f r ∷ drop (suc n) rs
on_each-parts n f [] r is = cc
on_each-parts zero f (x ∷ xs) r is = let same : x ≡ r = cc in ap (λ y. f y ∷ xs) same
on_each-parts (suc n) f (x ∷ xs) r is = ap (λ ys. x ∷ ys) (on_each-parts n f xs r is)

-- where there is none of this number, they stay
pub on_each-none : (n : ℕ) (f : Rel → Rel) (rs : List Rel) → slice_get rs n ≡ None → on_each n f rs ≡ rs
on_each-none n f [] is = refl
on_each-none zero f (x ∷ xs) is = cc
on_each-none (suc n) f (x ∷ xs) is = ap (λ ys. x ∷ ys) (on_each-none n f xs is)

-- what stands before the one that is rewritten, what it becomes, and what stands behind it
pub put_between : (n : ℕ) (f : Rel → Rel) (rs before after : List Rel) (r made : Rel) → slice_get rs n ≡ Some r → before ≡ take n rs → made ≡ f r → after ≡ take (length rs - (n + 1)) (drop (n + 1) rs) → before ++ made ∷ after ≡ on_each n f rs
put_between n f rs before after r made is front new back =
    let next : n + 1 ≡ suc n = omega arith in
    let rest : after ≡ drop (suc n) rs = back ∙ take_rest rs (n + 1) ∙ ap (λ (k : ℕ). drop k rs) next in
    (λ i. front i ++ new i ∷ rest i) ∙ sym (on_each-parts n f rs r is)

-- what an answer is, where it is known of the answer if there is one
pub known_of : {X E : Type 0} (answer : Result X E) (x due : X) → answer ≡ Ok x → IfOk answer (λ y. y ≡ due) → x ≡ due
known_of {X} {E} answer x due is known = subst (λ (r : Result X E). IfOk r (λ (y : X). y ≡ due)) is known
