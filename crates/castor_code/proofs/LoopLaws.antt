-- Loops that read one thing after the other.
use Rattle.std.proofs.Common.{◌≡◌, ◌∙◌, ℕ, zero, suc, ◌+◌, ◌-◌, ◌<◌, ◌≤◌, List, [], ◌∷◌, ◌++◌, length, ◌⊎◌, inl, inr, Result, Ok, Err, Option, Some, None, ap, sym, refl, arith, append_assoc, append-nil}
use Rattle.std.proofs.lemmas.Bool.{lt-ltb}
use Rattle.castor_code.specs.declared.decoding.CodeError.{CodeError}
use Rattle.castor_code.specs.declared.decoding.CodeError.TheVariants.{NotCode, Memory}
use Rattle.castor_code.specs.CodeAnswers.{Takes}
use Rattle.castor_code.specs.CodeForms.{is_some_list}
use Rattle.castor_code.specs.CodeReadings.{Input, Parse, u16_in, some_in}
use Rattle.castor_code.specs.Steps.{next, when, many, behind}
use Rattle.castor_code.proofs.StepLaws.{got, next_of, came, when_holds}
use Rattle.std.proofs.lemmas.Option.{some_pair_parts}

module _ {X S : Type 0} (one : S → Option (X × S)) where
  abbrev others : ℕ → X → S → Option (List X × S)
  others n x t = next (many n one t) (λ xs u. got (x ∷ xs) u)

  many_step : (n i : ℕ) (s : S) → i < n → many (n - i) one s ≡ next (one s) (others (n - (i + 1)))
  many_step n i s lt = let one_more : n - i ≡ suc (n - (i + 1)) = omega arith in ap (λ m. many m one s) one_more

  -- nothing is due where the next thing isn't there
  pub loop_none : (due : Option (List X × S)) (xs : List X) (n i : ℕ) (s : S) → due ≡ behind xs (many (n - i) one s) → i < n → one s ≡ None → due ≡ None
  loop_none due xs n i s so lt none = so ∙ ap (behind xs) (many_step n i s lt ∙ ap (λ o. next o (others (n - (i + 1)))) none)

  pub loop_stopped : (due : Option (List X × S)) (xs : List X) (n i : ℕ) (s : S) (e : CodeError) → due ≡ behind xs (many (n - i) one s) → i < n → (e ≡ Memory) ⊎ ((e ≡ NotCode) × (one s ≡ None)) → (e ≡ Memory) ⊎ ((e ≡ NotCode) × (due ≡ None))
  loop_stopped due xs n i s e so lt (inl memory) = inl memory
  loop_stopped due xs n i s e so lt (inr refused) = inr (refused.0, loop_none due xs n i s so lt refused.1)

  behind_more : (xs : List X) (x : X) (o : Option (List X × S)) → behind xs (next o (λ ys u. got (x ∷ ys) u)) ≡ behind (xs ++ x ∷ []) o
  behind_more xs x None = refl
  behind_more xs x (Some p) = ap (λ (ys : List X). got ys p.1) (sym (append_assoc xs (x ∷ []) p.0))

  -- the next thing goes behind the others
  pub loop_more : (due : Option (List X × S)) (xs ys : List X) (x : X) (n i : ℕ) (s t : S) → due ≡ behind xs (many (n - i) one s) → i < n → one s ≡ Some (x, t) → ys ≡ xs ++ x ∷ [] → due ≡ behind ys (many (n - (i + 1)) one t)
  loop_more due xs ys x n i s t so lt is new =
      so ∙ ap (behind xs) (many_step n i s lt ∙ next_of (one s) (others (n - (i + 1))) x t is)
      ∙ behind_more xs x (many (n - (i + 1)) one t) ∙ ap (λ (zs : List X). behind zs (many (n - (i + 1)) one t)) (sym new)

  -- after so many, all are there
  pub loop_done : (due : Option (List X × S)) (xs : List X) (n i : ℕ) (s : S) → due ≡ behind xs (many (n - i) one s) → n ≤ i → due ≡ Some (xs, s)
  loop_done due xs n i s so le =
      let none : n - i ≡ zero = omega arith in
      so ∙ ap (λ m. behind xs (many m one s)) none ∙ ap (λ (ys : List X). got ys s) (append-nil xs)

  -- before the first, all are still to come
  pub loop_start : (due : Option (List X × S)) (n : ℕ) (s : S) → due ≡ many n one s → due ≡ behind [] (many (n - 0) one s)
  loop_start due n s so = so ∙ start n ∙ alone (many (n - 0) one s)
    where
      start : (n : ℕ) → many n one s ≡ many (n - 0) one s
      start n = let same : n ≡ n - 0 = omega arith in ap (λ m. many m one s) same

      alone : (o : Option (List X × S)) → o ≡ behind [] o
      alone None = refl
      alone (Some p) = refl

many_length : {X S : Type 0} (one : S → Option (X × S)) (n : ℕ) (s t : S) (xs : List X) → many n one s ≡ Some (xs, t) → length xs ≡ n
many_length one zero s t xs is = ap length (sym (some_pair_parts _ _ _ _ is).0)
many_length {X} {S} one (suc n) s t xs is =
    let b = came (one s) (λ x u. next (many n one u) (λ ys v. got (x ∷ ys) v)) (xs, t) is in
    let c = came (many n one b.left) (λ ys v. got (b.first ∷ ys) v) (xs, t) b.answer in
    ap length (sym (some_pair_parts _ _ _ _ c.answer).0) ∙ ap suc (many_length one n b.left c.left c.first c.read)

-- a list that isn't empty, behind its number
pub some_takes : {X : Type 0} (one : Parse X) (n : ℕ) (s u left : Input) (r : Result (List X) CodeError) → u16_in s ≡ Some (n, u) → 0 < n → Takes (λ xs. xs) (many n one u) left r → Takes (λ xs. xs) (some_in one s) left r
some_takes {X} one n s u left r counted some took = by r took
  where
    due : some_in one s ≡ next (many n one u) (λ (xs : List X) (t : Input). when (is_some_list xs) (xs, t))
    due = ap (λ (o : Option (List X × Input)). next o (λ (xs : List X) (t : Input). when (is_some_list xs) (xs, t))) (next_of (u16_in s) (λ m t. many m one t) n u counted)

    by : (r : Result (List X) CodeError) → Takes (λ xs. xs) (many n one u) left r → Takes (λ xs. xs) (some_in one s) left r
    by (Ok xs) took =
        let long : length xs ≡ n = many_length one n u left xs took in
        due ∙ next_of (many n one u) (λ (ys : List X) (t : Input). when (is_some_list ys) (ys, t)) xs left took ∙ when_holds _ _ (lt-ltb 0 (length xs) (omega arith))
    by (Err e) (inl memory) = inl memory
    by (Err e) (inr refused) = inr (refused.0, due ∙ ap (λ (o : Option (List X × Input)). next o (λ (ys : List X) (t : Input). when (is_some_list ys) (ys, t))) refused.1)
