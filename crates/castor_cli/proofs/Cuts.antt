-- A text is its first line and the lines after it.
use Rattle.std.proofs.Common.{◌≡◌, ℕ, zero, suc, ◌+◌, ◌<◌, ◌≤◌, List, [], ◌∷◌, length, take, drop, Option, Some, None, Bool, refl, inl, inr, arith, add-one}
use Rattle.std.specs.Prelude.{position, ◌==◌, nat_lt}
use Rattle.std.specs.List.{position_or_len}
use Rattle.std.proofs.lemmas.Bool.{cases_Bool, ltb-true, ltb-false}
use Rattle.castor_cli.specs.Lines.{lines_of}

abbrev pub is_end : ℕ → Bool
is_end b = b == 10

-- the first line ends at the first line feed
pub lines-cut_at : (xs : List ℕ) (n : ℕ) → n ≡ position_or_len is_end xs → n < length xs → lines_of xs ≡ take n xs ∷ lines_of (drop (n + 1) xs)
unfolding lines_of
lines-cut_at [] n e lt = absurd (omega arith)
lines-cut_at (c ∷ cs) zero e lt =
    elim (cases_Bool (is_end c)) [
      | inl ends ↦ rw ends refl
      | inr goes ↦ absurd (let h : zero ≡ 1 + position_or_len is_end cs = rw goes at e in omega arith)
    ]
lines-cut_at (c ∷ cs) (suc m) e lt =
    elim (cases_Bool (is_end c)) [
      | inl ends ↦ absurd (let h : suc m ≡ zero = rw ends at e in omega arith)
      | inr goes ↦
          let h : suc m ≡ 1 + position_or_len is_end cs = rw goes at e in
          rw (goes, add-one (suc m), lines-cut_at cs m (omega arith) (omega arith), add-one m) refl
    ]

-- a text with no line feed is one line
pub lines-whole : (xs : List ℕ) → 0 < length xs → length xs ≤ position_or_len is_end xs → lines_of xs ≡ xs ∷ []
unfolding lines_of
lines-whole [] lt le = absurd (omega arith)
lines-whole (c ∷ []) lt le =
    elim (cases_Bool (is_end c)) [
      | inl ends ↦ absurd (let h : 1 ≤ zero = rw ends at le in omega arith)
      | inr goes ↦ rw goes refl
    ]
lines-whole (c ∷ d ∷ cs) lt le =
    elim (cases_Bool (is_end c)) [
      | inl ends ↦ absurd (let h : length (c ∷ d ∷ cs) ≤ zero = rw ends at le in omega arith)
      | inr goes ↦
          let h : length (c ∷ d ∷ cs) ≤ 1 + position_or_len is_end (d ∷ cs) = rw goes at le in
          rw (goes, lines-whole (d ∷ cs) (omega arith) (omega arith)) refl
    ]

-- what `position` finds is the first line feed
pub position-found : (xs : List ℕ) (n : ℕ) → Some n ≡ position is_end xs → (n ≡ position_or_len is_end xs) × (n < length xs)
position-found xs n e =
    elim (cases_Bool (nat_lt (position_or_len is_end xs) (length xs))) [
      | inl lt ↦ let h : Some n ≡ Some (position_or_len is_end xs) = rw lt at e in let k : n ≡ position_or_len is_end xs = cc h in (k, rw k (ltb-true _ _ lt))
      | inr ge ↦ absurd (let h : Some n ≡ None = rw ge at e in cc h)
    ]

-- and where it finds none there is none
pub position-missing : (xs : List ℕ) → None ≡ position is_end xs → length xs ≤ position_or_len is_end xs
position-missing xs e =
    elim (cases_Bool (nat_lt (position_or_len is_end xs) (length xs))) [
      | inl lt ↦ absurd (let h : ◌≡◌ {A = Option ℕ} None (Some (position_or_len is_end xs)) = rw lt at e in cc h)
      | inr ge ↦ ltb-false _ _ ge
    ]
