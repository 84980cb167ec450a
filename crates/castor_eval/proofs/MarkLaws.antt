-- What a loop over marked rows has kept.
use Rattle.std.proofs.Common.{◌≡◌, ◌∙◌, ℕ, ◌+◌, ◌<◌, List, [], ◌∷◌, ◌++◌, length, map, filter, take, drop, get_or, refl, sym, ap, cond, Bool, true, false, append_assoc, append-nil, ◌&&◌, arith}
use Rattle.std.proofs.lemmas.List.{take_more, drop_more, length-take-le}
use Rattle.std.proofs.lemmas.List.Elements.{filter-append}
use Rattle.castor_eval.specs.Marks.{marked}

pub marked-none : {X : Type 0} (marks : List Bool) → marked {X = X} marks [] ≡ []
marked-none [] = refl
marked-none (b ∷ marks) = refl

one_marked : {X : Type 0} (b : Bool) (marks : List Bool) (x : X) → marked (b ∷ marks) (x ∷ []) ≡ cond b (x ∷ []) []
one_marked true marks x = ap (λ xs. x ∷ xs) (marked-none marks)
one_marked false marks x = marked-none marks

cond_cons : {X : Type 0} (b : Bool) (y : X) (us vs ws : List X) → us ≡ vs ++ ws → cond b (y ∷ us) us ≡ cond b (y ∷ vs) vs ++ ws
cond_cons true y us vs ws e = ap (λ xs. y ∷ xs) e
cond_cons false y us vs ws e = e

marked-push : {X : Type 0} (marks : List Bool) (xs : List X) (x : X) → marked marks (xs ++ x ∷ []) ≡ marked marks xs ++ cond (get_or marks (length xs) false) (x ∷ []) []
marked-push [] xs x = refl
marked-push (b ∷ marks) [] x = one_marked b marks x
marked-push (b ∷ marks) (y ∷ xs) x = cond_cons b y (marked marks (xs ++ x ∷ [])) (marked marks xs) _ (marked-push marks xs x)

-- one more element of a list, with its mark
pub marked-more : {X : Type 0} (b : Bool) (marks : List Bool) (xs : List X) (i : ℕ) (x : X) → i < length xs → x ≡ get_or xs i x → get_or marks i false ≡ b → marked marks (take (i + 1) xs) ≡ marked marks (take i xs) ++ cond b (x ∷ []) []
marked-more b marks xs i x h at is =
    ap (marked marks) (take_more xs i x h ∙ ap (λ y. take i xs ++ y ∷ []) (sym at))
    ∙ marked-push marks (take i xs) x
    ∙ ap (λ n. marked marks (take i xs) ++ cond (get_or marks n false) (x ∷ []) []) (length-take-le i xs (omega (arith, h)))
    ∙ ap (λ c. marked marks (take i xs) ++ cond c (x ∷ []) []) is

step : {X : Type 0} (b : Bool) (kept : List X) (x : X) (marks : List Bool) (rest : List X) → cond b (kept ++ x ∷ []) kept ++ marked marks rest ≡ kept ++ marked (b ∷ marks) (x ∷ rest)
step true kept x marks rest = append_assoc kept (x ∷ []) (marked marks rest)
step false kept x marks rest = refl

-- the first element that is left goes, with its mark
pub marked-next : {X : Type 0} (b : Bool) (kept kept' total : List X) (marks : List Bool) (i : ℕ) (x : X) (old rest : List X) → i < length marks → get_or marks i false ≡ b → old ≡ x ∷ rest → kept' ≡ cond b (kept ++ x ∷ []) kept
    → kept ++ marked (drop i marks) old ≡ total → kept' ++ marked (drop (i + 1) marks) rest ≡ total
marked-next b kept kept' total marks i x old rest h is o k e =
    ap (λ ks. ks ++ marked (drop (i + 1) marks) rest) k
    ∙ step b kept x (drop (i + 1) marks) rest
    ∙ ap (λ c. kept ++ marked (c ∷ drop (i + 1) marks) (x ∷ rest)) (sym is)
    ∙ ap (λ ms. kept ++ marked ms (x ∷ rest)) (sym (drop_more marks i false h))
    ∙ ap (λ ys. kept ++ marked (drop i marks) ys) (sym o)
    ∙ e

-- no element is left
pub marked-over : {X : Type 0} (kept kept' total : List X) (marks : List Bool) (i : ℕ) (old rest : List X) → old ≡ [] → rest ≡ old → kept' ≡ kept → kept ++ marked (drop i marks) old ≡ total → kept' ++ marked (drop (i + 1) marks) rest ≡ total
marked-over kept kept' total marks i old rest o r k e =
    ap (λ ks. ks ++ marked (drop (i + 1) marks) rest) k
    ∙ ap (λ ys. kept ++ marked (drop (i + 1) marks) ys) (r ∙ o)
    ∙ ap (λ ys. kept ++ ys) (marked-none (drop (i + 1) marks) ∙ sym (marked-none (drop i marks)))
    ∙ ap (λ ys. kept ++ marked (drop i marks) ys) (sym o)
    ∙ e

marked_cons : {X : Type 0} (b : Bool) (x : X) (us vs : List X) → us ≡ vs → cond b (x ∷ us) us ≡ cond b (x ∷ vs) vs
marked_cons b x us vs e = ap (λ xs. cond b (x ∷ xs) xs) e

-- the elements marked by a test are those that pass it
pub marked-map : {X : Type 0} (p : X → Bool) (xs : List X) → marked (map p xs) xs ≡ filter p xs
marked-map p [] = refl
marked-map p (x ∷ xs) = marked_cons (p x) x _ _ (marked-map p xs)

-- one more mark for one more element
pub marked-both : {X : Type 0} (marks : List Bool) (xs : List X) (b : Bool) (x : X) → length marks ≡ length xs → marked (marks ++ b ∷ []) (xs ++ x ∷ []) ≡ marked marks xs ++ cond b (x ∷ []) []
marked-both [] [] b x e = refl
marked-both [] (y ∷ xs) b x e = absurd (omega (arith, e))
marked-both (m ∷ marks) [] b x e = absurd (omega (arith, e))
marked-both (m ∷ marks) (y ∷ xs) b x e = cond_cons m y (marked (marks ++ b ∷ []) (xs ++ x ∷ [])) (marked marks xs) _ (marked-both marks xs b x (omega (arith, e)))

picked : {X : Type 0} (p : X → Bool) (x : X) (b c : Bool) (found : List X) → p x ≡ c → cond (b && c) (found ++ x ∷ []) found ≡ found ++ filter p (cond b (x ∷ []) [])
picked p x true true found e = ap (λ c. found ++ cond c (x ∷ []) []) (sym e)
picked p x true false found e = sym (append-nil found) ∙ ap (λ c. found ++ cond c (x ∷ []) []) (sym e)
picked p x false c found e = sym (append-nil found)

-- one more element of a list: it is picked where its mark is true and it passes the test
pub picked-more : {X : Type 0} (p : X → Bool) (marks : List Bool) (xs : List X) (i : ℕ) (x : X) (c : Bool) (found found' : List X) → i < length xs → x ≡ get_or xs i x
    → found ≡ filter p (marked marks (take i xs)) → c ≡ (get_or marks i false && p x) → found' ≡ cond c (found ++ x ∷ []) found → found' ≡ filter p (marked marks (take (i + 1) xs))
picked-more p marks xs i x c found found' h at e is o =
    o ∙ ap (λ d. cond d (found ++ x ∷ []) found) is
    ∙ picked p x (get_or marks i false) (p x) found refl
    ∙ ap (λ ys. ys ++ filter p (cond (get_or marks i false) (x ∷ []) [])) e
    ∙ sym (filter-append p (marked marks (take i xs)) (cond (get_or marks i false) (x ∷ []) []))
    ∙ ap (filter p) (sym (marked-more (get_or marks i false) marks xs i x h at refl))
