-- What the rules of lists read stands in the grammar.
use Rattle.std.proofs.Common.{◌≡◌, ℕ, zero, suc, ◌+◌, ◌<◌, Bool, true, false, List, [], ◌∷◌, ◌++◌, length, refl, sym, ap, ◌∙◌, subst, zero-add, arith}
use Rattle.std.specs.Prelude.{map, fold}
use Rattle.castor_tokens.specs.declared.token.Symbol.{Symbol}
use Rattle.castor_tokens.specs.declared.token.Symbol.TheVariants as sign
use Rattle.castor_parse.specs.Lexemes.{Lexeme, symbol, Lexemes}
use Rattle.castor_parse.specs.Grammar as g
use Rattle.castor_parse.specs.Grammar.{Separated, last, more, MaybeSeparated, no_items, some_items}
use Rattle.castor_tree.specs.Sizes.{all_nodes}
use Rattle.castor_parse.specs.Parser.{State, Parser, and_then, spend, followed, on_comma, separated_from, separated, bracketed, maybe_by, maybe_bracketed}
use Rattle.castor_parse.proofs.Outcomes.{Gives, gives_some, weaker, step}
use Rattle.castor_parse.proofs.Readings.{Steps, Ate, Read, SoundPlain, Sound, expects_symbol, eats_symbol, spend_none, spends, had_some}

-- trees that have no nodes
abbrev pub no_nodes : {A : Type 0} → A → ℕ
no_nodes x = 0

pub plain : {A : Type 0} {R : Lexemes → A → Lexemes → Type 0} {p : Parser A} → SoundPlain R p → Sound R no_nodes p
plain h st = record { holds = λ x new e. let d = (h st).holds x new e in record { tree = x; derived = d.derived; spent = d.budget ∙ spend_none st.budget; same = λ le. refl } }

fold-from : (a : ℕ) (xs : List ℕ) → fold ◌+◌ a xs ≡ a + fold ◌+◌ 0 xs
fold-from a [] = omega arith
fold-from a (x ∷ xs) = omega (arith, fold-from (a + x) xs, fold-from (0 + x) xs)

pub all_nodes-cons : {A : Type 0} (size : A → ℕ) (x : A) (xs : List A) → all_nodes size (x ∷ xs) ≡ size x + all_nodes size xs
all_nodes-cons size x xs = fold-from (0 + size x) (map size xs) ∙ ap (λ n. n + all_nodes size xs) (zero-add (size x))

pub all_nodes-last : {A : Type 0} (size : A → ℕ) (xs : List A) (x : A) → all_nodes size (xs ++ x ∷ []) ≡ all_nodes size xs + size x
all_nodes-last size [] x = all_nodes-cons size x [] ∙ commutes (size x) (all_nodes size [])
  where
    commutes : (m n : ℕ) → m + n ≡ n + m
    commutes m n = omega arith
all_nodes-last size (y ∷ xs) x = all_nodes-cons size y (xs ++ x ∷ []) ∙ ap (λ n. size y + n) (all_nodes-last size xs x) ∙ regroup (size y) (all_nodes size xs) (size x) ∙ ap (λ n. n + size x) (sym (all_nodes-cons size y xs))
  where
    regroup : (m n k : ℕ) → m + (n + k) ≡ (m + n) + k
    regroup m n k = omega arith

pub all_nodes-none : {A : Type 0} (xs : List A) → all_nodes no_nodes xs ≡ 0
all_nodes-none [] = refl
all_nodes-none (x ∷ xs) = all_nodes-cons no_nodes x xs ∙ ap (λ n. 0 + n) (all_nodes-none xs)

module _ {A : Type 0} (R : Lexemes → A → Lexemes → Type 0) where
  -- one more item at the end
  pub one_more_item : {ts ws : Lexemes} {xs : List A} → Separated R ts xs ws → (us vs : Lexemes) (x : A) → ws ≡ g.comma ∷ us → R us x vs → Separated R ts (xs ++ x ∷ []) vs
  one_more_item (last {ts = ts} {us = ws} {x = y} d) us vs x e f = more (subst (λ w. R ts y w) e d) (last f)
  one_more_item (more d s) us vs x e f = more d (one_more_item s us vs x e f)

module _ {A : Type 0} (R : Lexemes → A → Lexemes → Type 0) (size : A → ℕ) (item : Parser A) (sound : Sound R size item) where
  comma_reads : (go_on : List A → Parser (List A)) → ((old : State) (found : List A) (st : State) → Read (Separated R) (all_nodes size) old found st → Gives (go_on found st) (Read (Separated R) (all_nodes size) old)) → (old : State) (found : List A) (st : State) (b : Bool) (s1 : State) → Read (Separated R) (all_nodes size) old found st → Ate g.comma st b s1 → Gives (on_comma b item found go_on s1) (Read (Separated R) (all_nodes size) old)
  comma_reads go_on goes old found st false s1 h ate = gives_some _ found s1 (subst (Read (Separated R) (all_nodes size) old found) ate h)
  comma_reads go_on goes old found st true s1 h ate =
      step (sound s1) (λ x s2 j. goes old (found ++ x ∷ []) s2 (record {
        tree = h.tree ++ j.tree ∷ [];
        derived = one_more_item R h.derived s1.rest s2.rest j.tree ate.rest j.derived;
        spent = spends old.budget s1.budget s2.budget (all_nodes size h.tree) (size j.tree) (ate.budget ∙ h.spent) j.spent ∙ ap (spend old.budget) (sym (all_nodes-last size h.tree j.tree));
        same = λ le.
            let before = h.same (subst (λ n. 0 < n) ate.budget (had_some s1.budget s2.budget (size j.tree) j.spent le)) in
            let one = j.same le in
            λ i. before i ++ one i ∷ [];
      }))

  separated_from_reads : (n : ℕ) (old : State) (found : List A) (st : State) → Read (Separated R) (all_nodes size) old found st → Gives (separated_from item n found st) (Read (Separated R) (all_nodes size) old)
  unfolding separated_from
  separated_from_reads zero old found st h = gives_some _ found st h
  separated_from_reads (suc n) old found st h = step (eats_symbol sign.Comma st) (λ b s1 ate. comma_reads (separated_from item n) (separated_from_reads n) old found st b s1 h ate)

  pub separated_reads : Sound (Separated R) (all_nodes size) (separated item)
  unfolding separated
  separated_reads st =
      step (sound st) (λ x s1 h. separated_from_reads (length s1.rest) st (x ∷ []) s1 (record {
        tree = h.tree ∷ [];
        derived = last h.derived;
        spent = h.spent ∙ ap (spend st.budget) (sym (zero-add (size h.tree)));
        same = λ le. ap (λ y. y ∷ []) (h.same le);
      }))

-- a tree, and then a token that was passed
pub record Then {A : Type 0} (R : Lexemes → A → Lexemes → Type 0) (size : A → ℕ) (t : Lexeme) (old : State) (x : A) (new : State) : Type 0 where
  pub tree : A
  pub derived : R old.rest tree (t ∷ new.rest)
  pub spent : new.budget ≡ spend old.budget (size tree)
  pub same : 0 < new.budget → x ≡ tree

pub then_passed : {A : Type 0} {R : Lexemes → A → Lexemes → Type 0} {size : A → ℕ} (t : Lexeme) (old : State) (x : A) (s1 s2 : State) → Read R size old x s1 → Steps t s1 s2 → Then R size t old x s2
then_passed {R = R} t old x s1 s2 h k = record {
  tree = h.tree;
  derived = subst (λ us. R old.rest h.tree us) k.rest h.derived;
  spent = k.budget ∙ h.spent;
  same = λ le. h.same (subst (λ n. 0 < n) k.budget le);
}

-- what a rule reads, and then a symbol
pub followed_reads : {A : Type 0} {R : Lexemes → A → Lexemes → Type 0} {size : A → ℕ} (p : Parser A) (s : Symbol) (old : State) → Gives (p old) (Read R size old) → Gives (followed p s old) (Then R size (symbol s) old)
unfolding followed
followed_reads p s old h = step h (λ x s1 j. step (expects_symbol s s1) (λ u s2 i. gives_some _ x s2 (then_passed (symbol s) old x s1 s2 j i)))

pub step_then : {A B : Type 0} {R : Lexemes → A → Lexemes → Type 0} {size : A → ℕ} {f : A → Parser B} {Q : B → State → Type 0} (p : Parser A) (s : Symbol) (old : State) → Gives (p old) (Read R size old) → ((x : A) (s2 : State) → Then R size (symbol s) old x s2 → Gives (f x s2) Q) → Gives (and_then (followed p s old) f) Q
step_then p s old h k = step (followed_reads p s old h) k

-- a list in brackets
abbrev pub InBrackets : {A : Type 0} → (Lexemes → A → Lexemes → Type 0) → Lexemes → A → Lexemes → Type 0
InBrackets R ts x us = (inside : Lexemes) × ((ts ≡ g.open_bracket ∷ inside) × R inside x (g.close_bracket ∷ us))

module _ {A : Type 0} (R : Lexemes → A → Lexemes → Type 0) (size : A → ℕ) (item : Parser A) (sound : Sound R size item) where
  closed : (st s1 : State) → Steps g.open_bracket st s1 → {found : List A} {s3 : State} {L : Lexemes → List A → Lexemes → Type 0} → Then L (all_nodes size) g.close_bracket s1 found s3 → Read (InBrackets L) (all_nodes size) st found s3
  closed st s1 opens h = record {
    tree = h.tree;
    derived = (s1.rest, (opens.rest, h.derived));
    spent = h.spent ∙ ap (λ n. spend n (all_nodes size h.tree)) opens.budget;
    same = h.same;
  }

  pub bracketed_reads : Sound (InBrackets (Separated R)) (all_nodes size) (bracketed item)
  unfolding bracketed
  bracketed_reads st =
      step (expects_symbol sign.OpenBracket st) (λ u s1 opens. weaker _ (followed_reads (separated item) sign.CloseBracket s1 (separated_reads R size item sound s1)) (λ found s3 h. closed st s1 opens h))

  maybe_reads : (st s1 : State) → Steps g.open_bracket st s1 → (b : Bool) (s2 : State) → Ate g.close_bracket s1 b s2 → Gives (maybe_by b item s2) (Read (InBrackets (MaybeSeparated R)) (all_nodes size) st)
  maybe_reads st s1 opens true s2 ate =
      gives_some _ [] s2 (record {
        tree = [];
        derived = (s1.rest, (opens.rest, subst (λ us. MaybeSeparated R us [] (g.close_bracket ∷ s2.rest)) (sym ate.rest) no_items));
        spent = ate.budget ∙ opens.budget ∙ spend_none st.budget;
        same = λ le. refl;
      })
  maybe_reads st s1 opens false s2 ate =
      let opens2 : Steps g.open_bracket st s2 = subst (Steps g.open_bracket st) ate opens in
      weaker _ (followed_reads (separated item) sign.CloseBracket s2 (separated_reads R size item sound s2)) (λ found s3 h. record {
        tree = h.tree;
        derived = (s2.rest, (opens2.rest, some_items h.derived));
        spent = h.spent ∙ ap (λ n. spend n (all_nodes size h.tree)) opens2.budget;
        same = h.same;
      })

  pub maybe_bracketed_reads : Sound (InBrackets (MaybeSeparated R)) (all_nodes size) (maybe_bracketed item)
  unfolding maybe_bracketed
  maybe_bracketed_reads st =
      step (expects_symbol sign.OpenBracket st) (λ u s1 opens. step (eats_symbol sign.CloseBracket s1) (λ b s2 ate. maybe_reads st s1 opens b s2 ate))
