-- What a rule of the parser reads stands in the grammar: the steps of that proof.
use Rattle.std.proofs.Common.{◌≡◌, ℕ, ◌+◌, ◌≤◌, ◌<◌, Bool, true, false, cond, [], ◌∷◌, Some, None, refl, ap, ◌∙◌, rules, arith}
use Rattle.std.specs.Prelude.{nat_le}
use Rattle.std.proofs.lemmas.Bool.{lt-ltb, leb-true}
use denote.Enum.Bare.{same_true}
use Rattle.castor_tokens.specs.contracts.token.Keyword as keywords
use Rattle.castor_tokens.specs.contracts.token.Symbol as symbols
use Rattle.castor_tokens.specs.declared.token.Keyword.{Keyword}
use Rattle.castor_tokens.specs.declared.token.Symbol.{Symbol}
use Rattle.castor_parse.specs.Lexemes.{Lexeme, name, int, text, keyword, symbol, Lexemes}
use Rattle.castor_parse.specs.Parser.{State, Parser, at, spend, shown, node, same_keyword, same_symbol, eat_symbol, eat_keyword, expect_symbol, expect_keyword, read_name, read_int, read_text}
use Rattle.castor_parse.proofs.Outcomes.{Gives, gives_none, gives_some}

-- ---- one token

-- a token was passed
pub record Steps (t : Lexeme) (old new : State) : Type 0 where
  pub rest : old.rest ≡ t ∷ new.rest
  pub budget : new.budget ≡ old.budget

pub stepped : (t : Lexeme) (ts : Lexemes) (n : ℕ) → Steps t (at (t ∷ ts) n) (at ts n)
stepped t ts n = record { rest = refl; budget = refl }

pub symbols_same : (s t : Symbol) → same_symbol s t ≡ true → s ≡ t
symbols_same s t h = same_true symbols.the_type (search rules) s t h

pub keywords_same : (j k : Keyword) → same_keyword j k ≡ true → j ≡ k
keywords_same j k h = same_true keywords.the_type (search rules) j k h

expected_symbol : (s t : Symbol) (ts : Lexemes) (n : ℕ) (b : Bool) → same_symbol t s ≡ b → Gives {A = Unit {0}} (cond b (Some (tt, at ts n)) None) (λ _ new. Steps (symbol s) (at (symbol t ∷ ts) n) new)
expected_symbol s t ts n false is = gives_none _
expected_symbol s t ts n true is = gives_some _ tt (at ts n) (record { rest = ap (λ u. symbol u ∷ ts) (symbols_same t s is); budget = refl })

expect_symbol_at : (s : Symbol) (ts : Lexemes) (n : ℕ) → Gives (expect_symbol s (at ts n)) (λ _ new. Steps (symbol s) (at ts n) new)
unfolding expect_symbol
expect_symbol_at s [] n = gives_none _
expect_symbol_at s (name w ∷ ts) n = gives_none _
expect_symbol_at s (int k ∷ ts) n = gives_none _
expect_symbol_at s (text z ∷ ts) n = gives_none _
expect_symbol_at s (keyword k ∷ ts) n = gives_none _
expect_symbol_at s (symbol t ∷ ts) n = expected_symbol s t ts n (same_symbol t s) refl

pub expects_symbol : (s : Symbol) (st : State) → Gives (expect_symbol s st) (λ _ new. Steps (symbol s) st new)
expects_symbol s st = expect_symbol_at s st.rest st.budget

expected_keyword : (k j : Keyword) (ts : Lexemes) (n : ℕ) (b : Bool) → same_keyword j k ≡ b → Gives {A = Unit {0}} (cond b (Some (tt, at ts n)) None) (λ _ new. Steps (keyword k) (at (keyword j ∷ ts) n) new)
expected_keyword k j ts n false is = gives_none _
expected_keyword k j ts n true is = gives_some _ tt (at ts n) (record { rest = ap (λ u. keyword u ∷ ts) (keywords_same j k is); budget = refl })

expect_keyword_at : (k : Keyword) (ts : Lexemes) (n : ℕ) → Gives (expect_keyword k (at ts n)) (λ _ new. Steps (keyword k) (at ts n) new)
unfolding expect_keyword
expect_keyword_at k [] n = gives_none _
expect_keyword_at k (name w ∷ ts) n = gives_none _
expect_keyword_at k (int i ∷ ts) n = gives_none _
expect_keyword_at k (text z ∷ ts) n = gives_none _
expect_keyword_at k (keyword j ∷ ts) n = expected_keyword k j ts n (same_keyword j k) refl
expect_keyword_at k (symbol t ∷ ts) n = gives_none _

pub expects_keyword : (k : Keyword) (st : State) → Gives (expect_keyword k st) (λ _ new. Steps (keyword k) st new)
expects_keyword k st = expect_keyword_at k st.rest st.budget

-- a token that is passed where it comes next
abbrev pub Ate : Lexeme → State → Bool → State → Type 0
Ate t old true new = Steps t old new
Ate t old false new = old ≡ new

eaten_symbol : (s t : Symbol) (ts : Lexemes) (n : ℕ) (b : Bool) → same_symbol t s ≡ b → Gives {A = Bool} (cond b (Some (true, at ts n)) (Some (false, at (symbol t ∷ ts) n))) (Ate (symbol s) (at (symbol t ∷ ts) n))
eaten_symbol s t ts n false is = gives_some _ false _ refl
eaten_symbol s t ts n true is = gives_some _ true (at ts n) (record { rest = ap (λ u. symbol u ∷ ts) (symbols_same t s is); budget = refl })

eat_symbol_at : (s : Symbol) (ts : Lexemes) (n : ℕ) → Gives (eat_symbol s (at ts n)) (Ate (symbol s) (at ts n))
unfolding eat_symbol
eat_symbol_at s [] n = gives_some _ false _ refl
eat_symbol_at s (name w ∷ ts) n = gives_some _ false _ refl
eat_symbol_at s (int k ∷ ts) n = gives_some _ false _ refl
eat_symbol_at s (text z ∷ ts) n = gives_some _ false _ refl
eat_symbol_at s (keyword k ∷ ts) n = gives_some _ false _ refl
eat_symbol_at s (symbol t ∷ ts) n = eaten_symbol s t ts n (same_symbol t s) refl

pub eats_symbol : (s : Symbol) (st : State) → Gives (eat_symbol s st) (Ate (symbol s) st)
eats_symbol s st = eat_symbol_at s st.rest st.budget

eaten_keyword : (k j : Keyword) (ts : Lexemes) (n : ℕ) (b : Bool) → same_keyword j k ≡ b → Gives {A = Bool} (cond b (Some (true, at ts n)) (Some (false, at (keyword j ∷ ts) n))) (Ate (keyword k) (at (keyword j ∷ ts) n))
eaten_keyword k j ts n false is = gives_some _ false _ refl
eaten_keyword k j ts n true is = gives_some _ true (at ts n) (record { rest = ap (λ u. keyword u ∷ ts) (keywords_same j k is); budget = refl })

eat_keyword_at : (k : Keyword) (ts : Lexemes) (n : ℕ) → Gives (eat_keyword k (at ts n)) (Ate (keyword k) (at ts n))
unfolding eat_keyword
eat_keyword_at k [] n = gives_some _ false _ refl
eat_keyword_at k (name w ∷ ts) n = gives_some _ false _ refl
eat_keyword_at k (int i ∷ ts) n = gives_some _ false _ refl
eat_keyword_at k (text z ∷ ts) n = gives_some _ false _ refl
eat_keyword_at k (keyword j ∷ ts) n = eaten_keyword k j ts n (same_keyword j k) refl
eat_keyword_at k (symbol t ∷ ts) n = gives_some _ false _ refl

pub eats_keyword : (k : Keyword) (st : State) → Gives (eat_keyword k st) (Ate (keyword k) st)
eats_keyword k st = eat_keyword_at k st.rest st.budget

read_name_at : (ts : Lexemes) (n : ℕ) → Gives (read_name (at ts n)) (λ w new. Steps (name w) (at ts n) new)
unfolding read_name
read_name_at [] n = gives_none _
read_name_at (name w ∷ ts) n = gives_some _ w (at ts n) (stepped (name w) ts n)
read_name_at (int k ∷ ts) n = gives_none _
read_name_at (text z ∷ ts) n = gives_none _
read_name_at (keyword k ∷ ts) n = gives_none _
read_name_at (symbol s ∷ ts) n = gives_none _

pub reads_name : (st : State) → Gives (read_name st) (λ w new. Steps (name w) st new)
reads_name st = read_name_at st.rest st.budget

-- an int that isn't too large
pub record StepsInt (limit k : ℕ) (old new : State) : Type 0 where
  pub steps : Steps (int k) old new
  pub within : k ≤ limit

int_within : (limit k : ℕ) (ts : Lexemes) (n : ℕ) (b : Bool) → nat_le k limit ≡ b → Gives {A = ℕ} (cond b (Some (k, at ts n)) None) (λ i new. StepsInt limit i (at (int k ∷ ts) n) new)
int_within limit k ts n false is = gives_none _
int_within limit k ts n true is = gives_some _ k (at ts n) (record { steps = stepped (int k) ts n; within = leb-true k limit is })

read_int_at : (limit : ℕ) (ts : Lexemes) (n : ℕ) → Gives (read_int limit (at ts n)) (λ k new. StepsInt limit k (at ts n) new)
unfolding read_int
read_int_at limit [] n = gives_none _
read_int_at limit (name w ∷ ts) n = gives_none _
read_int_at limit (int k ∷ ts) n = int_within limit k ts n (nat_le k limit) refl
read_int_at limit (text z ∷ ts) n = gives_none _
read_int_at limit (keyword k ∷ ts) n = gives_none _
read_int_at limit (symbol s ∷ ts) n = gives_none _

pub reads_int : (limit : ℕ) (st : State) → Gives (read_int limit st) (λ k new. StepsInt limit k st new)
reads_int limit st = read_int_at limit st.rest st.budget

read_text_at : (ts : Lexemes) (n : ℕ) → Gives (read_text (at ts n)) (λ z new. Steps (text z) (at ts n) new)
unfolding read_text
read_text_at [] n = gives_none _
read_text_at (name w ∷ ts) n = gives_none _
read_text_at (int k ∷ ts) n = gives_none _
read_text_at (text z ∷ ts) n = gives_some _ z (at ts n) (stepped (text z) ts n)
read_text_at (keyword k ∷ ts) n = gives_none _
read_text_at (symbol s ∷ ts) n = gives_none _

pub reads_text : (st : State) → Gives (read_text st) (λ z new. Steps (text z) st new)
reads_text st = read_text_at st.rest st.budget

-- ---- trees

-- a tree without nodes was read
pub record Plain {A : Type 0} (R : Lexemes → A → Lexemes → Type 0) (old : State) (x : A) (new : State) : Type 0 where
  pub derived : R old.rest x new.rest
  pub budget : new.budget ≡ old.budget

-- a tree was read, which is what was made while some of the budget is left
pub record Read {A : Type 0} (R : Lexemes → A → Lexemes → Type 0) (size : A → ℕ) (old : State) (x : A) (new : State) : Type 0 where
  pub tree : A
  pub derived : R old.rest tree new.rest
  pub spent : new.budget ≡ spend old.budget (size tree)
  pub same : 0 < new.budget → x ≡ tree

abbrev pub SoundPlain : {A : Type 0} → (Lexemes → A → Lexemes → Type 0) → Parser A → Type 0
SoundPlain R p = (st : State) → Gives (p st) (Plain R st)

abbrev pub Sound : {A : Type 0} → (Lexemes → A → Lexemes → Type 0) → (A → ℕ) → Parser A → Type 0
Sound R size p = (st : State) → Gives (p st) (Read R size st)

-- no node leaves all of a budget
pub spend_none : (n : ℕ) → n ≡ spend n 0
spend_none n = omega arith

shown_is : {A : Type 0} (empty x : A) (n : ℕ) → 0 < n → shown empty x n ≡ x
shown_is empty x n h = ap (λ b. cond b x empty) (lt-ltb 0 n h)

-- one more node, around a tree of k nodes
pub node_read : {A : Type 0} (R : Lexemes → A → Lexemes → Type 0) (size : A → ℕ) (old st : State) (empty x tree : A) (k : ℕ) → R old.rest tree st.rest → st.budget ≡ spend old.budget k → size tree ≡ 1 + k → (0 < st.budget → x ≡ tree) → Gives (node empty x st) (Read R size old)
unfolding node
node_read R size old st empty x tree k d spent sized same =
    gives_some _ _ (at st.rest (spend st.budget 1)) (record {
      tree = tree;
      derived = d;
      spent = omega (arith, spent, sized);
      same = λ h. shown_is empty x (spend st.budget 1) h ∙ same (omega (arith, h));
    })

-- one node alone
pub leaf_read : {A : Type 0} (R : Lexemes → A → Lexemes → Type 0) (size : A → ℕ) (old st : State) (empty tree : A) → R old.rest tree st.rest → st.budget ≡ old.budget → size tree ≡ 1 → Gives (node empty tree st) (Read R size old)
leaf_read R size old st empty tree d same sized = node_read R size old st empty tree tree 0 d (same ∙ spend_none old.budget) sized (λ h. refl)

-- the nodes of one tree after those of another
pub spends : (n m k a b : ℕ) → m ≡ spend n a → k ≡ spend m b → k ≡ spend n (a + b)
spends n m k a b h j = omega (arith, h, j)

-- where some is left, some was left before
pub had_some : (m k b : ℕ) → k ≡ spend m b → 0 < k → 0 < m
had_some m k b h le = omega (arith, h, le)
