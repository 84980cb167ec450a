-- What loops have gathered so far.
use Rattle.std.proofs.Common.{◌≡◌, ◌∙◌, ℕ, ◌+◌, ◌<◌, List, [], ◌∷◌, ◌++◌, append-nil, fold, length, take, get_or, refl, sym, ap, arith}
use Rattle.std.proofs.lemmas.List.{take_more}
use Rattle.castor_ltype.specs.Sizes.{added}

fold_behind : {A X : Type 0} (f : A → X → A) (a : A) (xs : List X) (x : X) → fold f a (xs ++ x ∷ []) ≡ f (fold f a xs) x
fold_behind f a [] x = refl
fold_behind f a (y ∷ xs) x = fold_behind f (f a y) xs x

-- one more of a list
pub fold_more : {X : Type 0} (f : X → X → X) (a : X) (xs : List X) (i : ℕ) (x so_far next : X) → i < length xs → x ≡ get_or xs i x → so_far ≡ fold f a (take i xs) → next ≡ f so_far x → next ≡ fold f a (take (i + 1) xs)
fold_more f a xs i x so_far next within is before here =
    here ∙ ap (λ y. f y x) before ∙ sym (ap (fold f a) (take_more xs i x within ∙ ap (λ y. take i xs ++ y ∷ []) (sym is)) ∙ fold_behind f a (take i xs) x)

no_more : (ms ns : List ℕ) → length ns < 1 → added ms ns ≡ []
no_more [] ns short = refl
no_more (m ∷ ms) [] short = refl
no_more (m ∷ ms) (n ∷ ns) short = absurd (omega arith)

-- where one of two lists of sizes has ended
pub added_end : (sums ms ns all : List ℕ) → length ns < 1 → sums ++ added ms ns ≡ all → sums ≡ all
added_end sums ms ns all short so = sym (ap (λ rest. sums ++ rest) (no_more ms ns short) ∙ append-nil sums) ∙ so
