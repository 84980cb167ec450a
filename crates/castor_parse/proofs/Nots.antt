-- The loop that passes `not`.
use Rattle.std.proofs.Common.{◌≡◌, ℕ, suc, ◌+◌, ◌≤◌, Bool, true, false, cond, [], ◌∷◌, length, drop, Some, refl, sym, ap, ◌∙◌, subst, arith}
use Rattle.castor_tokens.specs.declared.token.Keyword.TheVariants.{Not}
use Rattle.castor_parse.specs.Lexemes.{Lexeme, Lexemes}
use Rattle.castor_parse.specs.Parser.{State, Outcome, at, kind_of, is_keyword, eat_keyword, leading_nots, read_nots}
use Rattle.castor_parse.proofs.Outcomes.{pair, same_pair}

-- one `not` was passed
pub record Passes (old new : State) : Type 0 where
  pub nots : leading_nots old.rest ≡ suc (leading_nots new.rest)
  pub rest : drop (leading_nots new.rest) new.rest ≡ drop (leading_nots old.rest) old.rest
  pub budget : new.budget ≡ old.budget
  pub within : length old.rest ≡ suc (length new.rest)

-- no `not` comes next
pub record Stays (old new : State) : Type 0 where
  pub same : old ≡ new
  pub none : leading_nots old.rest ≡ 0

other : {Q : Type 0} (s t : State) → Some (pair false s) ≡ Some (pair true t) → Q
other s t e = let f : false ≡ true = ap (λ p. p.0) (same_pair (pair false s) (pair true t) e) in absurd (cc)

other_true : {Q : Type 0} (s t : State) → Some (pair true s) ≡ Some (pair false t) → Q
other_true s t e = let f : true ≡ false = ap (λ p. p.0) (same_pair (pair true s) (pair false t) e) in absurd (cc)

-- the tests of one token
passes_by : (t : Lexeme) (ts : Lexemes) (n : ℕ) (new : State) (b : Bool) → is_keyword Not (Some (kind_of t)) ≡ b → cond {A = Outcome Bool} b (Some (true, at ts n)) (Some (false, at (t ∷ ts) n)) ≡ Some (true, new) → Passes (at (t ∷ ts) n) new
passes_by t ts n new false is e = other (at (t ∷ ts) n) new e
passes_by t ts n new true is e =
    let new_is : at ts n ≡ new = ap (λ p. p.1) (same_pair (pair true (at ts n)) (pair true new) e) in
    let nots : leading_nots (t ∷ ts) ≡ suc (leading_nots ts) = ap (λ b. cond b (suc (leading_nots ts)) 0) is in
    subst (Passes (at (t ∷ ts) n)) new_is (record { nots = nots; rest = sym (ap (λ k. drop k (t ∷ ts)) nots); budget = refl; within = refl })

passes_at : (ts : Lexemes) (n : ℕ) (new : State) → eat_keyword Not (at ts n) ≡ Some (true, new) → Passes (at ts n) new
unfolding eat_keyword
passes_at [] n new e = other (at [] n) new e
passes_at (t ∷ ts) n new e = passes_by t ts n new (is_keyword Not (Some (kind_of t))) refl e

pub passes : (old new : State) → eat_keyword Not old ≡ Some (true, new) → Passes old new
passes old new e = passes_at old.rest old.budget new e

stays_by : (t : Lexeme) (ts : Lexemes) (n : ℕ) (new : State) (b : Bool) → is_keyword Not (Some (kind_of t)) ≡ b → cond {A = Outcome Bool} b (Some (true, at ts n)) (Some (false, at (t ∷ ts) n)) ≡ Some (false, new) → Stays (at (t ∷ ts) n) new
stays_by t ts n new true is e = other_true (at ts n) new e
stays_by t ts n new false is e = record { same = ap (λ p. p.1) (same_pair (pair false (at (t ∷ ts) n)) (pair false new) e); none = ap (λ b. cond b (suc (leading_nots ts)) 0) is }

stays_at : (ts : Lexemes) (n : ℕ) (new : State) → eat_keyword Not (at ts n) ≡ Some (false, new) → Stays (at ts n) new
unfolding eat_keyword
stays_at [] n new e = record { same = ap (λ p. p.1) (same_pair (pair false (at [] n)) (pair false new) e); none = refl }
stays_at (t ∷ ts) n new e = stays_by t ts n new (is_keyword Not (Some (kind_of t))) refl e

pub stays : (old new : State) → eat_keyword Not old ≡ Some (false, new) → Stays old new
stays old new e = stays_at old.rest old.budget new e

-- what the loop keeps: how many were passed, since where
pub record Counts (start old : State) (nots : ℕ) : Type 0 where
  pub all : nots + leading_nots old.rest ≡ leading_nots start.rest
  pub rest : drop (leading_nots old.rest) old.rest ≡ drop (leading_nots start.rest) start.rest
  pub budget : old.budget ≡ start.budget
  pub within : nots + length old.rest ≡ length start.rest

pub counts_none : (start : State) → Counts start start 0
counts_none start = record { all = omega arith; rest = refl; budget = refl; within = omega arith }

pub counts_more : (start old new : State) (nots : ℕ) → Counts start old nots → eat_keyword Not old ≡ Some (true, new) → Counts start new (nots + 1)
counts_more start old new nots h e =
    let p = passes old new e in
    record { all = omega (arith, p.nots, h.all); rest = p.rest ∙ h.rest; budget = p.budget ∙ h.budget; within = omega (arith, p.within, h.within) }

ends : (start old : State) (nots : ℕ) → Counts start old nots → leading_nots old.rest ≡ 0 → read_nots start ≡ Some (nots, old)
unfolding read_nots
ends start old nots h none =
    let p : leading_nots start.rest ≡ nots = omega (arith, h.all, none) in
    let q : drop (leading_nots start.rest) start.rest ≡ old.rest = sym h.rest ∙ ap (λ k. drop k old.rest) none in
    let r : start.budget ≡ old.budget = sym h.budget in
    λ i. Some (p i, at (q i) (r i))

pub counts_stop : (start old new : State) (nots : ℕ) → Counts start old nots → eat_keyword Not old ≡ Some (false, new) → read_nots start ≡ Some (nots, new)
counts_stop start old new nots h e = let s = stays old new e in ends start old nots h s.none ∙ ap (λ st. Some (pair nots st)) s.same

none_of_none : (ts : Lexemes) → length ts ≡ 0 → leading_nots ts ≡ 0
none_of_none [] h = refl
none_of_none (t ∷ ts) h = absurd (omega arith)

pub counts_end : (start old : State) (nots : ℕ) → Counts start old nots → length start.rest ≤ nots → read_nots start ≡ Some (nots, old)
counts_end start old nots h all = ends start old nots h (none_of_none old.rest (omega (arith, h.within)))
