-- What the grammar derives as an expression is read so, where the lexemes after it can't go on with it.
use Rattle.std.proofs.Common.{◌≡◌, ℕ, zero, suc, ◌+◌, ◌≤◌, ◌<◌, ◌^◌, pos, ◌-ℤ◌, Bool, true, false, cond, List, [], ◌∷◌, length, drop, Option, Some, None, refl, sym, ap, ◌∙◌, arith}
use Rattle.std.specs.Prelude.{nat_le}
use Rattle.std.proofs.lemmas.Bool.{lt-ltb, le-leb, leb-true}
use Rattle.castor_val.specs.declared.value.Ty.TheVariants as ty
use Rattle.castor_val.specs.declared.value.Value.TheVariants as value
use Rattle.castor_alg.specs.declared.expr.Op.{Op}
use Rattle.castor_alg.specs.declared.expr.Op.TheVariants as op
use Rattle.castor_tokens.specs.declared.token.Kind.{Kind}
use Rattle.castor_tokens.specs.declared.token.Keyword.TheVariants as word
use Rattle.castor_tokens.specs.declared.token.Symbol.TheVariants as sign
use Rattle.castor_tree.specs.declared.tree.Word.{Word}
use Rattle.castor_tree.specs.declared.tree.PCol.{PCol}
use Rattle.castor_tree.specs.declared.tree.PCol.TheVariants as col
use Rattle.castor_tree.specs.declared.tree.PExpr.{PExpr}
use Rattle.castor_tree.specs.declared.tree.PExpr.TheVariants as e
use Rattle.castor_parse.specs.Lexemes.{Lexeme, name, int, text, keyword, symbol, Lexemes}
use Rattle.castor_parse.specs.Limits.{opened, are_few_open}
use Rattle.castor_parse.specs.Grammar as g
use Rattle.castor_parse.specs.Grammar.{Level, IsCol, IsAlias, IsExpr, Compares}
use Rattle.castor_tree.specs.Sizes.{expr_nodes}
use Rattle.castor_parse.specs.Parser.{State, Outcome, Parser, and_then, at, spend, shown, node, kind_of, first_kind, is_symbol, is_keyword, empty_expr, expr_node, eat_symbol, eat_keyword, expect_symbol, read_name, read_int, read_text, chain_turn, chain_from, chain, or_operator, and_operator, comparison, sum_operator, term_operator, leading_nots, read_nots, negated, compared, int_limit, column_limit, int_literal, negative_literal, text_literal, truth_literal, read_param, numbered_col, named, read_if, parenthesized, read_prim, read_term, read_sum, read_cmp, read_not, read_and, read_or, expr_at, col_number, col_name, read_col, read_alias}
use Rattle.castor_parse.proofs.NodeLaws.{expr_nodes-Col, expr_nodes-ScopeAt, expr_nodes-Param, expr_nodes-Lit, expr_nodes-Bin, expr_nodes-Not, expr_nodes-If}
use Rattle.castor_parse.proofs.Readings.{spend_none, spends, had_some}
use Rattle.castor_parse.proofs.Past.{Past, both_past, token_past, and_first, and_second, compare_plain, expr_past}

-- a tree was read, and what was made is it while some of the budget is left
pub record Done {A : Type 0} (size : A → ℕ) (o : Outcome A) (m : ℕ) (tree : A) (us : Lexemes) : Type 0 where
  pub made : A
  pub left : ℕ
  pub is : o ≡ Some (made, at us left)
  pub spent : left ≡ spend m (size tree)
  pub same : 0 < left → made ≡ tree

shown_is : {A : Type 0} (empty x : A) (n : ℕ) → 0 < n → shown empty x n ≡ x
shown_is empty x n h = ap (λ b. cond b x empty) (lt-ltb 0 n h)

-- one more node, around a tree of k nodes
pub node_done : {A : Type 0} (size : A → ℕ) (o : Outcome A) (m k c : ℕ) (empty x tree : A) (us : Lexemes) → o ≡ node empty x (at us c) → c ≡ spend m k → size tree ≡ 1 + k → (0 < c → x ≡ tree) → Done size o m tree us
unfolding node
node_done size o m k c empty x tree us is spent sized same = record {
  made = shown empty x (spend c 1);
  left = spend c 1;
  is = is;
  spent = omega (arith, spent, sized);
  same = λ h. shown_is empty x (spend c 1) h ∙ same (omega (arith, h));
}

-- one node alone
pub leaf_done : {A : Type 0} (size : A → ℕ) (o : Outcome A) (m : ℕ) (empty tree : A) (us : Lexemes) → o ≡ node empty tree (at us m) → size tree ≡ 1 → Done size o m tree us
leaf_done size o m empty tree us is sized = node_done size o m 0 m empty tree tree us is (spend_none m) sized (λ h. refl)

-- the steps after what was read
pub goes : {A B : Type 0} {size : A → ℕ} {o : Outcome A} {m : ℕ} {tree : A} {us : Lexemes} (d : Done size o m tree us) (f : A → Parser B) (r : Outcome B) → f d.made (at us d.left) ≡ r → and_then o f ≡ r
goes d f r h = rw d.is h

-- ---- room for parentheses

-- the reader of depth n has room for the parentheses that open in the lexemes, before which k are open
pub record Room (n k : ℕ) (ts : Lexemes) : Type 0 where
  pub deep : 257 ≤ n + k
  pub within : k ≤ 256
  pub few : are_few_open k ts ≡ true

pub room_past : {n k : ℕ} {ts us : Lexemes} → Past ts us → Room n k ts → Room n k us
room_past {n} {k} p room = record { deep = room.deep; within = room.within; few = p.stays k room.few }

pub room_in : {n k : ℕ} {ts : Lexemes} → Room (suc n) k (g.open_paren ∷ ts) → Room n (k + 1) ts
room_in {n} {k} {ts} room = record {
  deep = omega (arith, room.deep);
  within = leb-true (k + 1) 256 (and_first (nat_le (k + 1) 256) (are_few_open (k + 1) ts) room.few);
  few = and_second (nat_le (k + 1) 256) (are_few_open (k + 1) ts) room.few;
}

-- ---- what goes on with an expression

-- how tightly the next token binds what is before it, 0 where it doesn't
abbrev pub strength : Lexemes → ℕ
strength [] = 0
strength (keyword word.Or ∷ ts) = 1
strength (keyword word.And ∷ ts) = 2
strength (symbol sign.Eq ∷ ts) = 4
strength (symbol sign.Ne ∷ ts) = 4
strength (symbol sign.Lt ∷ ts) = 4
strength (symbol sign.Le ∷ ts) = 4
strength (symbol sign.Gt ∷ ts) = 4
strength (symbol sign.Ge ∷ ts) = 4
strength (symbol sign.Plus ∷ ts) = 5
strength (symbol sign.Minus ∷ ts) = 5
strength (symbol sign.Star ∷ ts) = 6
strength (symbol sign.Slash ∷ ts) = 6
strength (symbol sign.Percent ∷ ts) = 6
strength (symbol sign.Dot ∷ ts) = 7
strength (t ∷ ts) = 0

or_stops : (us : Lexemes) → strength us < 1 → or_operator (first_kind us) ≡ None
or_stops [] h = refl
or_stops (keyword word.Or ∷ ts) h = absurd (omega arith)
or_stops (t ∷ ts) h = refl

and_stops : (us : Lexemes) → strength us < 2 → and_operator (first_kind us) ≡ None
and_stops [] h = refl
and_stops (keyword word.And ∷ ts) h = absurd (omega arith)
and_stops (t ∷ ts) h = refl

cmp_stops : (us : Lexemes) → strength us < 4 → comparison (first_kind us) ≡ None
cmp_stops [] h = refl
cmp_stops (symbol sign.Eq ∷ ts) h = absurd (omega arith)
cmp_stops (symbol sign.Ne ∷ ts) h = absurd (omega arith)
cmp_stops (symbol sign.Lt ∷ ts) h = absurd (omega arith)
cmp_stops (symbol sign.Le ∷ ts) h = absurd (omega arith)
cmp_stops (symbol sign.Gt ∷ ts) h = absurd (omega arith)
cmp_stops (symbol sign.Ge ∷ ts) h = absurd (omega arith)
cmp_stops (t ∷ ts) h = refl

sum_stops : (us : Lexemes) → strength us < 5 → sum_operator (first_kind us) ≡ None
sum_stops [] h = refl
sum_stops (symbol sign.Plus ∷ ts) h = absurd (omega arith)
sum_stops (symbol sign.Minus ∷ ts) h = absurd (omega arith)
sum_stops (t ∷ ts) h = refl

term_stops : (us : Lexemes) → strength us < 6 → term_operator (first_kind us) ≡ None
term_stops [] h = refl
term_stops (symbol sign.Star ∷ ts) h = absurd (omega arith)
term_stops (symbol sign.Slash ∷ ts) h = absurd (omega arith)
term_stops (symbol sign.Percent ∷ ts) h = absurd (omega arith)
term_stops (t ∷ ts) h = refl

pub dot_stops : (us : Lexemes) → strength us < 7 → is_symbol sign.Dot (first_kind us) ≡ false
dot_stops [] h = refl
dot_stops (symbol sign.Dot ∷ ts) h = absurd (omega arith)
dot_stops (t ∷ ts) h = refl

compare_strength : {t : Lexeme} {o : Op} (us : Lexemes) → Compares t o → strength (t ∷ us) ≡ 4
compare_strength us g.eq = refl
compare_strength us g.ne = refl
compare_strength us g.lt = refl
compare_strength us g.le = refl
compare_strength us g.gt = refl
compare_strength us g.ge = refl

compare_is : {t : Lexeme} {o : Op} → Compares t o → comparison (Some (kind_of t)) ≡ Some o
compare_is g.eq = refl
compare_is g.ne = refl
compare_is g.lt = refl
compare_is g.le = refl
compare_is g.gt = refl
compare_is g.ge = refl

-- ---- chains

-- a chain was read up to its last operator so far
pub record Chained (operator : Option Kind → Option Op) (next : Parser PExpr) (o : Outcome PExpr) (m : ℕ) (tree : PExpr) (us : Lexemes) : Type 0 where
  pub made : PExpr
  pub left : ℕ
  pub turns : ℕ
  pub enough : length us ≤ turns
  pub is : o ≡ chain_from operator next turns made (at us left)
  pub spent : left ≡ spend m (expr_nodes tree)
  pub same : 0 < left → made ≡ tree

module _ (operator : Option Kind → Option Op) (next : Parser PExpr) where
  chain_stops : (turns : ℕ) (x : PExpr) (us : Lexemes) (c : ℕ) → operator (first_kind us) ≡ None → chain_from operator next turns x (at us c) ≡ Some (x, at us c)
  unfolding chain_from
  chain_stops zero x us c stops = refl
  chain_stops (suc n) x us c stops = ap (λ o. chain_turn o next (chain_from operator next n) x (at us c)) stops

  chained_done : (o : Outcome PExpr) (m : ℕ) (tree : PExpr) (us : Lexemes) → Chained operator next o m tree us → operator (first_kind us) ≡ None → Done expr_nodes o m tree us
  chained_done o m tree us h stops = record { made = h.made; left = h.left; is = h.is ∙ chain_stops h.turns h.made us h.left stops; spent = h.spent; same = h.same }

  chain_begins : (ts : Lexemes) (m : ℕ) (tree : PExpr) (us : Lexemes) → Done expr_nodes (next (at ts m)) m tree us → Chained operator next (chain operator next (at ts m)) m tree us
  unfolding chain
  chain_begins ts m tree us d = record { made = d.made; left = d.left; turns = length us; enough = omega arith; is = goes d _ _ refl; spent = d.spent; same = d.same }

  chain_turns : (turns : ℕ) (x : PExpr) (t : Lexeme) (us : Lexemes) (c : ℕ) (o : Op) (y : PExpr) (vs : Lexemes) (k : ℕ) → operator (Some (kind_of t)) ≡ Some o → next (at us c) ≡ Some (y, at vs k) → chain_from operator next (suc turns) x (at (t ∷ us) c) ≡ and_then (expr_node (e.Bin o x y) (at vs k)) (chain_from operator next turns)
  unfolding chain_from
  chain_turns turns x t us c o y vs k joins is = ap (λ j. chain_turn j next (chain_from operator next turns) x (at (t ∷ us) c)) joins ∙ rw is refl

  chained_with : (o : Outcome PExpr) (m : ℕ) (a : PExpr) (t : Lexeme) (us : Lexemes) (j : Op) (b : PExpr) (vs : Lexemes) (x : PExpr) (c turns : ℕ) → length (t ∷ us) ≤ turns → o ≡ chain_from operator next turns x (at (t ∷ us) c) → c ≡ spend m (expr_nodes a) → (0 < c → x ≡ a) → operator (Some (kind_of t)) ≡ Some j → Done expr_nodes (next (at us c)) c b vs → length vs ≤ length us → Chained operator next o m (e.Bin j a b) vs
  unfolding node
  chained_with o m a t us j b vs x c zero enough is spent same joins d shorter = absurd (omega arith)
  chained_with o m a t us j b vs x c (suc turns) enough is spent same joins d shorter = record {
    made = shown empty_expr (e.Bin j x d.made) (spend d.left 1);
    left = spend d.left 1;
    turns = turns;
    enough = omega (arith, enough, shorter);
    is = is ∙ chain_turns turns x t us c j d.made vs d.left joins d.is;
    spent = omega (arith, spends m c d.left (expr_nodes a) (expr_nodes b) spent d.spent, expr_nodes-Bin j a b);
    same = λ h.
        let within : 0 < d.left = omega (arith, h) in
        let p = same (had_some c d.left (expr_nodes b) d.spent within) in
        let q = d.same within in
        shown_is empty_expr (e.Bin j x d.made) (spend d.left 1) h ∙ (λ i. e.Bin j (p i) (q i));
  }

  chained_more : (o : Outcome PExpr) (m : ℕ) (a : PExpr) (t : Lexeme) (us : Lexemes) (j : Op) (b : PExpr) (vs : Lexemes) → Chained operator next o m a (t ∷ us) → operator (Some (kind_of t)) ≡ Some j → ((c : ℕ) → Done expr_nodes (next (at us c)) c b vs) → length vs ≤ length us → Chained operator next o m (e.Bin j a b) vs
  chained_more o m a t us j b vs h joins d shorter = chained_with o m a t us j b vs h.made h.left h.turns h.enough h.is h.spent h.same joins (d h.left) shorter

-- ---- `not`

abbrev NoNot : Level → Lexemes → Type 0
NoNot g.expr ts = Unit {0}
NoNot g.and ts = Unit {0}
NoNot g.not ts = Unit {0}
NoNot g.cmp ts = leading_nots ts ≡ 0
NoNot g.sum ts = leading_nots ts ≡ 0
NoNot g.term ts = leading_nots ts ≡ 0
NoNot g.prim ts = leading_nots ts ≡ 0

col_no_not : {ts us : Lexemes} {c : PCol} → IsCol ts c us → leading_nots ts ≡ 0
col_no_not g.named = refl
col_no_not g.dotted = refl
col_no_not (g.numbered le) = refl

-- a comparison doesn't begin with `not`
no_not : {l : Level} {ts us : Lexemes} {a : PExpr} → IsExpr l ts a us → NoNot l ts
no_not (g.expr_and d) = tt
no_not (g.expr_or d f) = tt
no_not (g.and_not d) = tt
no_not (g.and_and d f) = tt
no_not (g.not_not d) = tt
no_not (g.not_cmp d) = tt
no_not (g.cmp_sum d) = no_not d
no_not (g.compares c d f) = no_not d
no_not (g.sum_term d) = no_not d
no_not (g.sum_plus d f) = no_not d
no_not (g.sum_minus d f) = no_not d
no_not (g.term_prim d) = no_not d
no_not (g.term_star d f) = no_not d
no_not (g.term_slash d f) = no_not d
no_not (g.term_percent d f) = no_not d
no_not (g.prim_int le) = refl
no_not (g.prim_negative le) = refl
no_not g.prim_text = refl
no_not g.prim_true = refl
no_not g.prim_false = refl
no_not g.prim_param = refl
no_not (g.prim_col d) = col_no_not d
no_not (g.prim_scope le) = refl
no_not (g.prim_if c a b) = refl
no_not (g.prim_paren d) = refl

-- one more `not` around all others
negated-last : (n : ℕ) (a : PExpr) (st : State) → negated (suc n) a st ≡ and_then (negated n a st) (λ b. expr_node (e.Not b))
unfolding negated node
negated-last zero a st = refl
negated-last (suc n) a st = negated-last n (shown empty_expr (e.Not a) (spend st.budget 1)) (at st.rest (spend st.budget 1))

assoc : {A B C : Type 0} (o : Outcome A) (f : A → Parser B) (h : B → Parser C) → and_then (and_then o f) h ≡ and_then o (λ x st. and_then (f x st) h)
assoc None f h = refl
assoc (Some p) f h = refl

-- ---- columns, and names after `as`

stops_eating : (s : State) (b : Bool) → is_symbol sign.Dot (first_kind s.rest) ≡ b → b ≡ false → eat_symbol sign.Dot s ≡ Some (false, s)
unfolding eat_symbol
stops_eating s b is none = rw (is ∙ none) refl

pub col_done : {ts us : Lexemes} {c : PCol} → IsCol ts c us → strength us < 7 → (m : ℕ) → read_col (at ts m) ≡ Some (c, at us m)
unfolding read_col col_name col_number read_name read_int eat_symbol
col_done (g.named {ts} {w}) h m = rw (dot_stops ts h) refl
col_done (g.dotted {ts} {v} {w}) h m = refl
col_done (g.numbered {ts} {n} le) h m = rw (le-leb n column_limit (omega (arith, le))) refl

-- the lexemes don't begin with `as`
abbrev pub HasNoAlias : Lexemes → Type 0
HasNoAlias us = is_keyword word.As (first_kind us) ≡ false

pub alias_done : {ts us : Lexemes} {called : Option Word} → IsAlias ts called us → HasNoAlias us → (m : ℕ) → read_alias (at ts m) ≡ Some (called, at us m)
unfolding read_alias eat_keyword read_name
alias_done (g.no_alias {ts}) h m = rw h refl
alias_done (g.alias {ts} {w}) h m = refl

-- ---- expressions

-- What a derivation of a level comes to, in the reader with n levels of parentheses inside. A chain is read up
-- to its last operator; other rules are done.
abbrev Reached : Level → ℕ → Lexemes → ℕ → PExpr → Lexemes → Type 0
Reached g.expr n ts m a us = strength us ≤ 1 → Chained or_operator (read_and (expr_at n)) (read_or (expr_at n) (at ts m)) m a us
Reached g.and n ts m a us = strength us ≤ 2 → Chained and_operator (read_not (expr_at n)) (read_and (expr_at n) (at ts m)) m a us
Reached g.not n ts m a us = strength us < 3 → Done expr_nodes (read_not (expr_at n) (at ts m)) m a us
Reached g.cmp n ts m a us = strength us < 4 → Done expr_nodes (read_cmp (expr_at n) (at ts m)) m a us
Reached g.sum n ts m a us = strength us ≤ 5 → Chained sum_operator (read_term (expr_at n)) (read_sum (expr_at n) (at ts m)) m a us
Reached g.term n ts m a us = strength us ≤ 6 → Chained term_operator (read_prim (expr_at n)) (read_term (expr_at n) (at ts m)) m a us
Reached g.prim n ts m a us = strength us < 7 → Done expr_nodes (read_prim (expr_at n) (at ts m)) m a us

abbrev Reaches : Level → Lexemes → PExpr → Lexemes → Type 0
Reaches l ts a us = (n k : ℕ) → Room (suc n) k ts → (m : ℕ) → Reached l n ts m a us

module _ {ts : Lexemes} {a : PExpr} {us : Lexemes} where
  term_done : Reaches g.term ts a us → (n k : ℕ) → Room (suc n) k ts → strength us < 6 → (m : ℕ) → Done expr_nodes (read_term (expr_at n) (at ts m)) m a us
  term_done h n k room s m = chained_done term_operator (read_prim (expr_at n)) (read_term (expr_at n) (at ts m)) m a us (h n k room m (omega arith)) (term_stops us s)

  sum_done : Reaches g.sum ts a us → (n k : ℕ) → Room (suc n) k ts → strength us < 5 → (m : ℕ) → Done expr_nodes (read_sum (expr_at n) (at ts m)) m a us
  sum_done h n k room s m = chained_done sum_operator (read_term (expr_at n)) (read_sum (expr_at n) (at ts m)) m a us (h n k room m (omega arith)) (sum_stops us s)

  and_done : Reaches g.and ts a us → (n k : ℕ) → Room (suc n) k ts → strength us < 2 → (m : ℕ) → Done expr_nodes (read_and (expr_at n) (at ts m)) m a us
  and_done h n k room s m = chained_done and_operator (read_not (expr_at n)) (read_and (expr_at n) (at ts m)) m a us (h n k room m (omega arith)) (and_stops us s)

  or_done : Reaches g.expr ts a us → (n k : ℕ) → Room (suc n) k ts → strength us < 1 → (m : ℕ) → Done expr_nodes (read_or (expr_at n) (at ts m)) m a us
  or_done h n k room s m = chained_done or_operator (read_and (expr_at n)) (read_or (expr_at n) (at ts m)) m a us (h n k room m (omega arith)) (or_stops us s)

  -- an expression in a reader that has room for its parentheses
  inner_done : Reaches g.expr ts a us → (n k : ℕ) → Room n k ts → strength us < 1 → (m : ℕ) → Done expr_nodes (expr_at n (at ts m)) m a us
  unfolding expr_at
  inner_done h zero k room s m = absurd (omega (arith, room.deep, room.within))
  inner_done h (suc n) k room s m = or_done h n k room s m

-- a comparison of two sums
compared_done : (n m : ℕ) (ts : Lexemes) (a b : PExpr) (t : Lexeme) (us vs : Lexemes) (o : Op) → Compares t o → (d : Done expr_nodes (read_sum (expr_at n) (at ts m)) m a (t ∷ us)) → Done expr_nodes (read_sum (expr_at n) (at us d.left)) d.left b vs → Done expr_nodes (read_cmp (expr_at n) (at ts m)) m (e.Bin o a b) vs
unfolding read_cmp
compared_done n m ts a b t us vs o c d f =
    node_done expr_nodes _ m (expr_nodes a + expr_nodes b) f.left empty_expr (e.Bin o d.made f.made) (e.Bin o a b) vs
    (goes d _ _ (ap (λ j. compared j (read_sum (expr_at n)) d.made (at (t ∷ us) d.left)) (compare_is c) ∙ goes f _ _ refl))
    (spends m d.left f.left (expr_nodes a) (expr_nodes b) d.spent f.spent)
    (expr_nodes-Bin o a b)
    (λ le. let p = d.same (had_some d.left f.left (expr_nodes b) f.spent le) in let q = f.same le in λ i. e.Bin o (p i) (q i))

plain_cmp : (n m : ℕ) (ts : Lexemes) (a : PExpr) (us : Lexemes) → strength us < 4 → Done expr_nodes (read_sum (expr_at n) (at ts m)) m a us → Done expr_nodes (read_cmp (expr_at n) (at ts m)) m a us
unfolding read_cmp
plain_cmp n m ts a us s d = record {
  made = d.made;
  left = d.left;
  is = goes d _ _ (ap (λ j. compared j (read_sum (expr_at n)) d.made (at us d.left)) (cmp_stops us s));
  spent = d.spent;
  same = d.same;
}

not_of_cmp : (n m : ℕ) (ts : Lexemes) (a : PExpr) (us : Lexemes) → leading_nots ts ≡ 0 → Done expr_nodes (read_cmp (expr_at n) (at ts m)) m a us → Done expr_nodes (read_not (expr_at n) (at ts m)) m a us
unfolding read_not read_nots negated
not_of_cmp n m ts a us none d = record {
  made = d.made;
  left = d.left;
  is = ap (λ j. and_then (read_cmp (expr_at n) (at (drop j ts) m)) (negated j)) none ∙ goes d (negated 0) _ refl;
  spent = d.spent;
  same = d.same;
}

not_of_not : (n m : ℕ) (ts : Lexemes) (a : PExpr) (us : Lexemes) → Done expr_nodes (read_not (expr_at n) (at ts m)) m a us → Done expr_nodes (read_not (expr_at n) (at (keyword word.Not ∷ ts) m)) m (e.Not a) us
unfolding read_not read_nots
not_of_not n m ts a us d =
    node_done expr_nodes _ m (expr_nodes a) d.left empty_expr (e.Not d.made) (e.Not a) us
    ((λ i. and_then (read_cmp (expr_at n) (at (drop (leading_nots ts) ts) m)) (λ b st. negated-last (leading_nots ts) b st i))
    ∙ sym (assoc (read_cmp (expr_at n) (at (drop (leading_nots ts) ts) m)) (negated (leading_nots ts)) (λ b. expr_node (e.Not b)))
    ∙ goes d (λ b. expr_node (e.Not b)) _ refl)
    d.spent (expr_nodes-Not a) (λ le. ap e.Not (d.same le))

leaf : (o : Outcome PExpr) (m : ℕ) (tree : PExpr) (us : Lexemes) → o ≡ expr_node tree (at us m) → expr_nodes tree ≡ 1 → Done expr_nodes o m tree us
leaf o m tree us is sized = leaf_done expr_nodes o m empty_expr tree us is sized

col_leaf : {ts us : Lexemes} {c : PCol} (inner : Parser PExpr) → IsCol ts c us → strength us < 7 → (m : ℕ) → Done expr_nodes (read_prim inner (at ts m)) m (e.Col c) us
unfolding read_prim named numbered_col col_number read_name read_int eat_symbol
col_leaf inner (g.named {ts} {w}) h m = leaf _ m (e.Col (col.Name w)) ts (rw (dot_stops ts h) refl) (expr_nodes-Col (col.Name w))
col_leaf inner (g.dotted {ts} {v} {w}) h m = leaf _ m (e.Col (col.Dotted v w)) ts refl (expr_nodes-Col (col.Dotted v w))
col_leaf inner (g.numbered {ts} {n} le) h m = leaf _ m (e.Col (col.Number n)) ts (rw (le-leb n column_limit (omega (arith, le))) refl) (expr_nodes-Col (col.Number n))

int_leaf : (inner : Parser PExpr) (n : ℕ) (ts : Lexemes) → n < 2 ^ 63 → (m : ℕ) → Done expr_nodes (read_prim inner (at (int n ∷ ts) m)) m (e.Lit ty.Int (value.Int (pos n))) ts
unfolding read_prim int_literal read_int
int_leaf inner n ts le m = leaf _ m (e.Lit ty.Int (value.Int (pos n))) ts (rw (le-leb n int_limit (omega (arith, le))) refl) (expr_nodes-Lit ty.Int (value.Int (pos n)))

negative_leaf : (inner : Parser PExpr) (n : ℕ) (ts : Lexemes) → n ≤ 2 ^ 63 → (m : ℕ) → Done expr_nodes (read_prim inner (at (symbol sign.Minus ∷ int n ∷ ts) m)) m (e.Lit ty.Int (value.Int (pos 0 -ℤ pos n))) ts
unfolding read_prim negative_literal read_int
negative_leaf inner n ts le m = leaf _ m (e.Lit ty.Int (value.Int (pos 0 -ℤ pos n))) ts (rw (le-leb n (int_limit + 1) (omega (arith, le))) refl) (expr_nodes-Lit ty.Int (value.Int (pos 0 -ℤ pos n)))

scope_leaf : (inner : Parser PExpr) (w : Word) (n : ℕ) (ts : Lexemes) → n < 2 ^ 32 → (m : ℕ) → Done expr_nodes (read_prim inner (at (name w ∷ g.dot ∷ int n ∷ ts) m)) m (e.ScopeAt w n) ts
unfolding read_prim named read_name read_int eat_symbol
scope_leaf inner w n ts le m = leaf _ m (e.ScopeAt w n) ts (rw (le-leb n column_limit (omega (arith, le))) refl) (expr_nodes-ScopeAt w n)

word_leaves : (inner : Parser PExpr) (ts : Lexemes) (m : ℕ) → ((z : List ℕ) → Done expr_nodes (read_prim inner (at (text z ∷ ts) m)) m (e.Lit ty.Text (value.Text z)) ts) × (Done expr_nodes (read_prim inner (at (keyword word.True ∷ ts) m)) m (e.Lit ty.Bool (value.Bool true)) ts × (Done expr_nodes (read_prim inner (at (keyword word.False ∷ ts) m)) m (e.Lit ty.Bool (value.Bool false)) ts × ((w : Word) → Done expr_nodes (read_prim inner (at (symbol sign.Dollar ∷ name w ∷ ts) m)) m (e.Param w) ts)))
unfolding read_prim text_literal truth_literal read_param read_text read_name
word_leaves inner ts m = (
  (λ z. leaf _ m (e.Lit ty.Text (value.Text z)) ts refl (expr_nodes-Lit ty.Text (value.Text z))),
  (
    leaf _ m (e.Lit ty.Bool (value.Bool true)) ts refl (expr_nodes-Lit ty.Bool (value.Bool true)),
    (
      leaf _ m (e.Lit ty.Bool (value.Bool false)) ts refl (expr_nodes-Lit ty.Bool (value.Bool false)),
      (λ w. leaf _ m (e.Param w) ts refl (expr_nodes-Param w)),
    ),
  ),
)

if_done : (inner : Parser PExpr) (ts : Lexemes) (c a b : PExpr) (us vs ws : Lexemes) (m : ℕ) → (d : Done expr_nodes (inner (at ts m)) m c (g.comma ∷ us)) → (f : Done expr_nodes (inner (at us d.left)) d.left a (g.comma ∷ vs)) → Done expr_nodes (inner (at vs f.left)) f.left b (g.close_paren ∷ ws) → Done expr_nodes (read_prim inner (at (keyword word.If ∷ g.open_paren ∷ ts) m)) m (e.If c a b) ws
unfolding read_prim read_if expect_symbol
if_done inner ts c a b us vs ws m d f h =
    node_done expr_nodes _ m (expr_nodes c + (expr_nodes a + expr_nodes b)) h.left empty_expr (e.If d.made f.made h.made) (e.If c a b) ws
    (goes d _ _ (goes f _ _ (goes h _ _ refl)))
    (spends m d.left h.left (expr_nodes c) (expr_nodes a + expr_nodes b) d.spent (spends d.left f.left h.left (expr_nodes a) (expr_nodes b) f.spent h.spent))
    (expr_nodes-If c a b)
    (λ le.
    let l2 = had_some f.left h.left (expr_nodes b) h.spent le in
    let p = d.same (had_some d.left f.left (expr_nodes a) f.spent l2) in
    let q = f.same l2 in
    let r = h.same le in
    λ i. e.If (p i) (q i) (r i))

paren_done : (inner : Parser PExpr) (ts : Lexemes) (a : PExpr) (us : Lexemes) (m : ℕ) → Done expr_nodes (inner (at ts m)) m a (g.close_paren ∷ us) → Done expr_nodes (read_prim inner (at (g.open_paren ∷ ts) m)) m a us
unfolding read_prim parenthesized expect_symbol
paren_done inner ts a us m d = record { made = d.made; left = d.left; is = goes d _ _ refl; spent = d.spent; same = d.same }

pub past_token : {ts us : Lexemes} (t : Lexeme) → ((k : ℕ) → opened k t ≡ k) → Past ts (t ∷ us) → Past ts us
past_token {ts} {us} t plain p = both_past p (token_past t us plain)

reach : {l : Level} {ts us : Lexemes} {a : PExpr} → IsExpr l ts a us → Reaches l ts a us
unfolding read_or read_and read_sum read_term
reach (g.expr_and {ts} {us} {a} d) n k room m = λ s. chain_begins or_operator (read_and (expr_at n)) ts m a us (and_done (reach d) n k room (omega arith) m)
reach (g.expr_or {ts} {us} {vs} {a} {b} d f) n k room m = λ s.
    chained_more or_operator (read_and (expr_at n)) _ m a (keyword word.Or) us op.Or b vs (reach d n k room m (omega arith)) refl (λ c. and_done (reach f) n k (room_past (past_token (keyword word.Or) (λ j. refl) (expr_past d)) room) (omega arith) c) (expr_past f).shorter
reach (g.and_not {ts} {us} {a} d) n k room m = λ s. chain_begins and_operator (read_not (expr_at n)) ts m a us (reach d n k room m (omega arith))
reach (g.and_and {ts} {us} {vs} {a} {b} d f) n k room m = λ s.
    chained_more and_operator (read_not (expr_at n)) _ m a (keyword word.And) us op.And b vs (reach d n k room m (omega arith)) refl (λ c. reach f n k (room_past (past_token (keyword word.And) (λ j. refl) (expr_past d)) room) c (omega arith)) (expr_past f).shorter
reach (g.not_not {ts} {us} {a} d) n k room m = λ s. not_of_not n m ts a us (reach d n k (room_past (token_past (keyword word.Not) ts (λ j. refl)) room) m s)
reach (g.not_cmp {ts} {us} {a} d) n k room m = λ s. not_of_cmp n m ts a us (no_not d) (reach d n k room m (omega arith))
reach (g.cmp_sum {ts} {us} {a} d) n k room m = λ s. plain_cmp n m ts a us s (sum_done (reach d) n k room (omega arith) m)
reach (g.compares {ts} {us} {vs} {t} {o} {a} {b} c d f) n k room m = λ s.
    let first = sum_done (reach d) n k room (omega (arith, compare_strength us c)) m in
    compared_done n m ts a b t us vs o c first (sum_done (reach f) n k (room_past (past_token t (compare_plain c) (expr_past d)) room) (omega arith) first.left)
reach (g.sum_term {ts} {us} {a} d) n k room m = λ s. chain_begins sum_operator (read_term (expr_at n)) ts m a us (term_done (reach d) n k room (omega arith) m)
reach (g.sum_plus {ts} {us} {vs} {a} {b} d f) n k room m = λ s.
    chained_more sum_operator (read_term (expr_at n)) _ m a (symbol sign.Plus) us op.Add b vs (reach d n k room m (omega arith)) refl (λ c. term_done (reach f) n k (room_past (past_token (symbol sign.Plus) (λ j. refl) (expr_past d)) room) (omega arith) c) (expr_past f).shorter
reach (g.sum_minus {ts} {us} {vs} {a} {b} d f) n k room m = λ s.
    chained_more sum_operator (read_term (expr_at n)) _ m a (symbol sign.Minus) us op.Sub b vs (reach d n k room m (omega arith)) refl (λ c. term_done (reach f) n k (room_past (past_token (symbol sign.Minus) (λ j. refl) (expr_past d)) room) (omega arith) c) (expr_past f).shorter
reach (g.term_prim {ts} {us} {a} d) n k room m = λ s. chain_begins term_operator (read_prim (expr_at n)) ts m a us (reach d n k room m (omega arith))
reach (g.term_star {ts} {us} {vs} {a} {b} d f) n k room m = λ s.
    chained_more term_operator (read_prim (expr_at n)) _ m a (symbol sign.Star) us op.Mul b vs (reach d n k room m (omega arith)) refl (λ c. reach f n k (room_past (past_token (symbol sign.Star) (λ j. refl) (expr_past d)) room) c (omega arith)) (expr_past f).shorter
reach (g.term_slash {ts} {us} {vs} {a} {b} d f) n k room m = λ s.
    chained_more term_operator (read_prim (expr_at n)) _ m a (symbol sign.Slash) us op.Div b vs (reach d n k room m (omega arith)) refl (λ c. reach f n k (room_past (past_token (symbol sign.Slash) (λ j. refl) (expr_past d)) room) c (omega arith)) (expr_past f).shorter
reach (g.term_percent {ts} {us} {vs} {a} {b} d f) n k room m = λ s.
    chained_more term_operator (read_prim (expr_at n)) _ m a (symbol sign.Percent) us op.Rem b vs (reach d n k room m (omega arith)) refl (λ c. reach f n k (room_past (past_token (symbol sign.Percent) (λ j. refl) (expr_past d)) room) c (omega arith)) (expr_past f).shorter
reach (g.prim_int {ts} {n = i} le) n k room m = λ s. int_leaf (expr_at n) i ts le m
reach (g.prim_negative {ts} {n = i} le) n k room m = λ s. negative_leaf (expr_at n) i ts le m
reach (g.prim_text {ts} {z}) n k room m = λ s. (word_leaves (expr_at n) ts m).0 z
reach (g.prim_true {ts}) n k room m = λ s. (word_leaves (expr_at n) ts m).1.0
reach (g.prim_false {ts}) n k room m = λ s. (word_leaves (expr_at n) ts m).1.1.0
reach (g.prim_param {ts} {w}) n k room m = λ s. (word_leaves (expr_at n) ts m).1.1.1 w
reach (g.prim_col d) n k room m = λ s. col_leaf (expr_at n) d s m
reach (g.prim_scope {ts} {w} {n = i} le) n k room m = λ s. scope_leaf (expr_at n) w i ts le m
reach (g.prim_if {ts} {us} {vs} {ws} {c} {a} {b} d f h) n k room m = λ s.
    let inside = room_in (room_past (token_past (keyword word.If) (g.open_paren ∷ ts) (λ j. refl)) room) in
    let after_c = room_past (past_token g.comma (λ j. refl) (expr_past d)) inside in
    let after_a = room_past (past_token g.comma (λ j. refl) (expr_past f)) after_c in
    let x = inner_done (reach d) n (k + 1) inside (omega arith) m in
    let y = inner_done (reach f) n (k + 1) after_c (omega arith) x.left in
    if_done (expr_at n) ts c a b us vs ws m x y (inner_done (reach h) n (k + 1) after_a (omega arith) y.left)
reach (g.prim_paren {ts} {us} {a} d) n k room m = λ s. paren_done (expr_at n) ts a us m (inner_done (reach d) n (k + 1) (room_in room) (omega arith) m)

-- an expression is read where the lexemes after it can't go on with it
pub expr_done : {ts us : Lexemes} {a : PExpr} → IsExpr g.expr ts a us → (n k : ℕ) → Room n k ts → strength us < 1 → (m : ℕ) → Done expr_nodes (expr_at n (at ts m)) m a us
expr_done d n k room s m = inner_done (reach d) n k room s m
