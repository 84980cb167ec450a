-- What is read, one thing after the other.
use Rattle.std.proofs.Common.{◌≡◌, ◌∙◌, ◌⊎◌, inl, inr, ℕ, ◌+◌, ◌-◌, ◌<◌, ◌≤◌, List, [], ◌∷◌, ◌++◌, drop, length, get_or, Option, Some, None, ap, sym, refl, append_assoc, append-nil}
use Rattle.std.proofs.lemmas.List.{drop_more, drop_all}
use Rattle.castor_code.specs.Steps.{next, many, behind}
use Rattle.castor_code.proofs.StepLaws.{got, next_of}
use Rattle.castor_code.proofs.LoopLaws.{loop_none}
use Rattle.castor_image.specs.declared.error.OpenError.{OpenError}
use Rattle.castor_image.specs.declared.error.OpenError.TheVariants.{NotImage, Memory}

-- why something isn't read
abbrev pub Lacks : OpenError → Type 0 → Type 0
Lacks e none = (e ≡ Memory) ⊎ ((e ≡ NotImage) × none)

pub lacks_more : {A B : Type 0} (e : OpenError) → (A → B) → Lacks e A → Lacks e B
lacks_more e f (inl memory) = inl memory
lacks_more e f (inr refused) = inr (refused.0, f refused.1)

-- so many things
pub many_stopped : {X S : Type 0} (one : S → Option (X × S)) (due : Option (List X × S)) (xs : List X) (n i : ℕ) (s : S) (e : OpenError)
    → due ≡ behind xs (many (n - i) one s) → i < n → Lacks e (one s ≡ None) → Lacks e (due ≡ None)
many_stopped one due xs n i s e so lt why = lacks_more e (loop_none one due xs n i s so lt) why

behind_more : {X S : Type 0} (xs : List X) (x : X) (o : Option (List X × S)) → behind xs (next o (λ ys u. got (x ∷ ys) u)) ≡ behind (xs ++ x ∷ []) o
behind_more xs x None = refl
behind_more {X} xs x (Some p) = ap (λ (ys : List X). got ys p.1) (sym (append_assoc xs (x ∷ []) p.0))

-- one thing for each of a list: of the next, and of the others
module _ {K X S : Type 0} (all : List K → S → Option (List X × S)) (one : K → S → Option (X × S)) where
  abbrev Turns : Type 0
  Turns = (k : K) (ks : List K) (s : S) → all (k ∷ ks) s ≡ next (one k s) (λ x t. next (all ks t) (λ xs u. got (x ∷ xs) u))

  module _ (turns : Turns) where
    turn_next : (ks : List K) (i : ℕ) (k : K) (s : S) → i < length ks → k ≡ get_or ks i k → all (drop i ks) s ≡ next (one k s) (λ x t. next (all (drop (i + 1) ks) t) (λ xs u. got (x ∷ xs) u))
    turn_next ks i k s lt is =
        ap (λ (zs : List K). all zs s) (drop_more ks i k lt) ∙ turns (get_or ks i k) (drop (i + 1) ks) s
        ∙ ap (λ (j : K). next (one j s) (λ x t. next (all (drop (i + 1) ks) t) (λ xs u. got (x ∷ xs) u))) (sym is)

    pub turn_more : (due : Option (List X × S)) (xs ys : List X) (x : X) (ks : List K) (i : ℕ) (k : K) (s t : S) → due ≡ behind xs (all (drop i ks) s) → i < length ks → k ≡ get_or ks i k
        → one k s ≡ Some (x, t) → ys ≡ xs ++ x ∷ [] → due ≡ behind ys (all (drop (i + 1) ks) t)
    turn_more due xs ys x ks i k s t so lt is read new =
        so ∙ ap (behind xs) (turn_next ks i k s lt is ∙ next_of (one k s) (λ x t. next (all (drop (i + 1) ks) t) (λ xs u. got (x ∷ xs) u)) x t read)
        ∙ behind_more xs x (all (drop (i + 1) ks) t) ∙ ap (λ (zs : List X). behind zs (all (drop (i + 1) ks) t)) (sym new)

    pub turn_stopped : (due : Option (List X × S)) (xs : List X) (ks : List K) (i : ℕ) (k : K) (s : S) (e : OpenError) → due ≡ behind xs (all (drop i ks) s) → i < length ks → k ≡ get_or ks i k
        → Lacks e (one k s ≡ None) → Lacks e (due ≡ None)
    turn_stopped due xs ks i k s e so lt is why =
        lacks_more e (λ none. so ∙ ap (behind xs) (turn_next ks i k s lt is ∙ ap (λ (o : Option (X × S)). next o (λ x t. next (all (drop (i + 1) ks) t) (λ xs u. got (x ∷ xs) u))) none)) why

  pub turn_done : ((s : S) → all [] s ≡ Some ([], s)) → (due : Option (List X × S)) (xs : List X) (ks : List K) (i : ℕ) (s : S) → due ≡ behind xs (all (drop i ks) s) → length ks ≤ i → due ≡ Some (xs, s)
  turn_done none due xs ks i s so le =
      so ∙ ap (λ (zs : List K). behind xs (all zs s)) (drop_all i ks le) ∙ ap (behind xs) (none s) ∙ ap (λ (ys : List X). got ys s) (append-nil xs)

  alone : (o : Option (List X × S)) → o ≡ behind [] o
  alone None = refl
  alone (Some p) = refl

  pub turn_start : (ks : List K) (s : S) → all ks s ≡ behind [] (all (drop 0 ks) s)
  turn_start ks s = alone (all ks s)
