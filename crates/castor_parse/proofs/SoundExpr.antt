-- What the rules of expressions read stands in the grammar.
use Rattle.std.proofs.Common.{◌≡◌, ℕ, zero, suc, ◌+◌, ◌<◌, pos, ◌-ℤ◌, Bool, true, false, cond, [], ◌∷◌, length, drop, Option, Some, None, refl, sym, ap, ◌∙◌, subst, arith}
use Rattle.castor_val.specs.declared.value.Ty.TheVariants as ty
use Rattle.castor_val.specs.declared.value.Value.TheVariants as value
use Rattle.castor_alg.specs.declared.expr.Op.{Op}
use Rattle.castor_alg.specs.declared.expr.Op.TheVariants as op
use Rattle.castor_tokens.specs.declared.token.Kind.{Kind}
use Rattle.castor_tokens.specs.declared.token.Keyword.TheVariants as word
use Rattle.castor_tokens.specs.declared.token.Symbol.TheVariants as sign
use Rattle.castor_tree.specs.declared.tree.Word.{Word}
use Rattle.castor_tree.specs.declared.tree.PCol.TheVariants as col
use Rattle.castor_tree.specs.declared.tree.PExpr.{PExpr}
use Rattle.castor_tree.specs.declared.tree.PExpr.TheVariants as e
use Rattle.castor_parse.specs.Lexemes.{Lexeme, name, int, text, keyword, symbol, Lexemes}
use Rattle.castor_parse.specs.Grammar as g
use Rattle.castor_parse.specs.Grammar.{Level, IsCol, IsAlias, IsExpr, Compares}
use Rattle.castor_tree.specs.Sizes.{expr_nodes}
use Rattle.castor_parse.specs.Parser.{State, Parser, ◌>>=◌, at, spend, kind_of, first_kind, is_keyword, empty_expr, expr_node, chain_turn, chain_from, chain, or_operator, and_operator, comparison, sum_operator, term_operator, leading_nots, read_nots, negated, compared, read_name, int_limit, column_limit, int_literal, negative_literal, text_literal, truth_literal, read_param, numbered_col, member_by, named_by, named, read_if, parenthesized, read_prim, read_term, read_sum, read_cmp, read_not, read_and, read_or, expr_at, dotted, col_number, col_name, read_col, alias_by, read_alias}
use Rattle.castor_parse.proofs.Outcomes.{Gives, gives_none, gives_some, step}
use Rattle.castor_parse.proofs.NodeLaws.{expr_nodes-Col, expr_nodes-ScopeAt, expr_nodes-Param, expr_nodes-Lit, expr_nodes-Bin, expr_nodes-Not, expr_nodes-If}
use Rattle.castor_parse.proofs.Readings.{Steps, Ate, Plain, Read, SoundPlain, Sound, expects_symbol, eats_symbol, eats_keyword, reads_name, reads_int, reads_text, node_read, leaf_read, spends, had_some, keywords_same}

-- ---- columns, and names after `as`

dotted_read : (old st : State) (w : Word) (b : Bool) (new : State) → Steps (name w) old st → Ate (symbol sign.Dot) st b new → Gives (dotted b w new) (Plain IsCol old)
dotted_read old st w false new h ate =
    gives_some _ (col.Name w) new (record { derived = rw h.rest (subst (λ s. IsCol (name w ∷ st.rest) (col.Name w) s.rest) ate g.named); budget = ap (λ s. s.budget) (sym ate) ∙ h.budget })
dotted_read old st w true new h ate =
    step (reads_name new) (λ v last k. gives_some _ (col.Dotted w v) last (record { derived = rw (h.rest, ate.rest, k.rest) g.dotted; budget = k.budget ∙ ate.budget ∙ h.budget }))

reads_col_name : SoundPlain IsCol col_name
unfolding col_name
reads_col_name st = step (reads_name st) (λ w next h. step (eats_symbol sign.Dot next) (λ b new ate. dotted_read st next w b new h ate))

reads_col_number : (ts : Lexemes) (n : ℕ) → Gives (col_number (at (symbol sign.Hash ∷ ts) n)) (Plain IsCol (at (symbol sign.Hash ∷ ts) n))
unfolding col_number
reads_col_number ts n = step (reads_int column_limit (at ts n)) (λ k new h. gives_some _ (col.Number k) new (record { derived = rw h.steps.rest (g.numbered {n = k} (omega (arith, h.within))); budget = h.steps.budget }))

read_col_at : (ts : Lexemes) (n : ℕ) → Gives (read_col (at ts n)) (Plain IsCol (at ts n))
unfolding read_col
read_col_at [] n = reads_col_name (at [] n)
read_col_at (symbol sign.Hash ∷ ts) n = reads_col_number ts n
read_col_at (t ∷ ts) n = reads_col_name (at (t ∷ ts) n)

pub reads_col : SoundPlain IsCol read_col
reads_col st = read_col_at st.rest st.budget

alias_read : (old : State) (b : Bool) (new : State) → Ate (keyword word.As) old b new → Gives (alias_by b new) (Plain IsAlias old)
alias_read old false new ate = gives_some _ None new (record { derived = subst (λ s. IsAlias old.rest None s.rest) ate g.no_alias; budget = ap (λ s. s.budget) (sym ate) })
alias_read old true new ate = step (reads_name new) (λ w last h. gives_some _ (Some w) last (record { derived = rw (ate.rest, h.rest) g.alias; budget = h.budget ∙ ate.budget }))

pub reads_alias : SoundPlain IsAlias read_alias
unfolding read_alias
reads_alias st = step (eats_keyword word.As st) (λ b new ate. alias_read st b new ate)

-- ---- expressions

abbrev pub SoundExpr : Level → Parser PExpr → Type 0
SoundExpr l p = Sound (IsExpr l) expr_nodes p

-- a binary operator around two trees
bin_read : (l l2 m : Level) (o : Op) (old : State) (t : Lexeme) (us : Lexemes) (k : ℕ) (x y : PExpr) (st : State) →
    ((ts vs : Lexemes) (a b : PExpr) → IsExpr l ts a (t ∷ us) → IsExpr m us b vs → IsExpr l2 ts (e.Bin o a b) vs) →
    Read (IsExpr l) expr_nodes old x (at (t ∷ us) k) → Read (IsExpr m) expr_nodes (at us k) y st → Gives (expr_node (e.Bin o x y) st) (Read (IsExpr l2) expr_nodes old)
bin_read l l2 m o old t us k x y st joins h j =
    node_read (IsExpr l2) expr_nodes old st empty_expr (e.Bin o x y) (e.Bin o h.tree j.tree) (expr_nodes h.tree + expr_nodes j.tree)
    (joins old.rest st.rest h.tree j.tree h.derived j.derived)
    (omega (arith, h.spent, j.spent)) (expr_nodes-Bin o h.tree j.tree)
    (λ le. let p = h.same (omega (arith, j.spent)) in let q = j.same le in λ i. e.Bin o (p i) (q i))

some_op : (p o : Op) → Some p ≡ Some o → p ≡ o
some_op p o is = cc

none_op : (o : Op) → None ≡ Some o → ⊥
none_op o is = cc

-- the same tree by another rule
lift : (l m : Level) (old : State) (x : PExpr) (new : State) → ((ts us : Lexemes) (a : PExpr) → IsExpr m ts a us → IsExpr l ts a us) → Read (IsExpr m) expr_nodes old x new → Read (IsExpr l) expr_nodes old x new
lift l m old x new up h = record { tree = h.tree; derived = up old.rest new.rest h.tree h.derived; spent = h.spent; same = h.same }

-- a chain of parts of the level m makes one of the level l
module _ (l m : Level) (operator : Option Kind → Option Op) (next : Parser PExpr) (none : operator None ≡ None)
    (joins : (t : Lexeme) (o : Op) → operator (Some (kind_of t)) ≡ Some o → (ts us vs : Lexemes) (a b : PExpr) → IsExpr l ts a (t ∷ us) → IsExpr m us b vs → IsExpr l ts (e.Bin o a b) vs)
    (sound : SoundExpr m next) where
  turn_reads : (go_on : PExpr → Parser PExpr) → ((old : State) (x : PExpr) (st : State) → Read (IsExpr l) expr_nodes old x st → Gives (go_on x st) (Read (IsExpr l) expr_nodes old)) → (old : State) (x : PExpr) (ts : Lexemes) (k : ℕ) (o : Option Op) → operator (first_kind ts) ≡ o → Read (IsExpr l) expr_nodes old x (at ts k) → Gives (chain_turn o next go_on x (at ts k)) (Read (IsExpr l) expr_nodes old)
  turn_reads go_on goes old x ts k None is h = gives_some _ x (at ts k) h
  turn_reads go_on goes old x [] k (Some o) is h = absurd (none_op o (sym none ∙ is))
  turn_reads go_on goes old x (t ∷ us) k (Some o) is h =
      step (sound (at us k)) (λ y st j. step (bin_read l l m o old t us k x y st (λ ts vs a b d f. joins t o is ts us vs a b d f) h j) (λ z new i. goes old z new i))

  chain_from_reads : (n : ℕ) (old : State) (x : PExpr) (st : State) → Read (IsExpr l) expr_nodes old x st → Gives (chain_from operator next n x st) (Read (IsExpr l) expr_nodes old)
  unfolding chain_from
  chain_from_reads zero old x st h = gives_some _ x st h
  chain_from_reads (suc n) old x st h = turn_reads (chain_from operator next n) (chain_from_reads n) old x st.rest st.budget (operator (first_kind st.rest)) refl h

  chain_reads : ((ts us : Lexemes) (a : PExpr) → IsExpr m ts a us → IsExpr l ts a us) → SoundExpr l (chain operator next)
  unfolding chain
  chain_reads up st = step (sound st) (λ x new h. chain_from_reads (length new.rest) st x new (lift l m st x new up h))

or_joins : (t : Lexeme) (o : Op) → or_operator (Some (kind_of t)) ≡ Some o → (ts us vs : Lexemes) (a b : PExpr) → IsExpr g.expr ts a (t ∷ us) → IsExpr g.and us b vs → IsExpr g.expr ts (e.Bin o a b) vs
or_joins (keyword word.Or) o is ts us vs a b d f = subst (λ p. IsExpr g.expr ts (e.Bin p a b) vs) (some_op op.Or o is) (g.expr_or d f)
or_joins t o is ts us vs a b d f = absurd (none_op o is)

and_joins : (t : Lexeme) (o : Op) → and_operator (Some (kind_of t)) ≡ Some o → (ts us vs : Lexemes) (a b : PExpr) → IsExpr g.and ts a (t ∷ us) → IsExpr g.not us b vs → IsExpr g.and ts (e.Bin o a b) vs
and_joins (keyword word.And) o is ts us vs a b d f = subst (λ p. IsExpr g.and ts (e.Bin p a b) vs) (some_op op.And o is) (g.and_and d f)
and_joins t o is ts us vs a b d f = absurd (none_op o is)

sum_joins : (t : Lexeme) (o : Op) → sum_operator (Some (kind_of t)) ≡ Some o → (ts us vs : Lexemes) (a b : PExpr) → IsExpr g.sum ts a (t ∷ us) → IsExpr g.term us b vs → IsExpr g.sum ts (e.Bin o a b) vs
sum_joins (symbol sign.Plus) o is ts us vs a b d f = subst (λ p. IsExpr g.sum ts (e.Bin p a b) vs) (some_op op.Add o is) (g.sum_plus d f)
sum_joins (symbol sign.Minus) o is ts us vs a b d f = subst (λ p. IsExpr g.sum ts (e.Bin p a b) vs) (some_op op.Sub o is) (g.sum_minus d f)
sum_joins t o is ts us vs a b d f = absurd (none_op o is)

term_joins : (t : Lexeme) (o : Op) → term_operator (Some (kind_of t)) ≡ Some o → (ts us vs : Lexemes) (a b : PExpr) → IsExpr g.term ts a (t ∷ us) → IsExpr g.prim us b vs → IsExpr g.term ts (e.Bin o a b) vs
term_joins (symbol sign.Star) o is ts us vs a b d f = subst (λ p. IsExpr g.term ts (e.Bin p a b) vs) (some_op op.Mul o is) (g.term_star d f)
term_joins (symbol sign.Slash) o is ts us vs a b d f = subst (λ p. IsExpr g.term ts (e.Bin p a b) vs) (some_op op.Div o is) (g.term_slash d f)
term_joins (symbol sign.Percent) o is ts us vs a b d f = subst (λ p. IsExpr g.term ts (e.Bin p a b) vs) (some_op op.Rem o is) (g.term_percent d f)
term_joins t o is ts us vs a b d f = absurd (none_op o is)

compares_is : (t : Lexeme) (o : Op) → comparison (Some (kind_of t)) ≡ Some o → Compares t o
compares_is (symbol sign.Eq) o is = subst (Compares (symbol sign.Eq)) (some_op op.Eq o is) g.eq
compares_is (symbol sign.Ne) o is = subst (Compares (symbol sign.Ne)) (some_op op.Ne o is) g.ne
compares_is (symbol sign.Lt) o is = subst (Compares (symbol sign.Lt)) (some_op op.Lt o is) g.lt
compares_is (symbol sign.Le) o is = subst (Compares (symbol sign.Le)) (some_op op.Le o is) g.le
compares_is (symbol sign.Gt) o is = subst (Compares (symbol sign.Gt)) (some_op op.Gt o is) g.gt
compares_is (symbol sign.Ge) o is = subst (Compares (symbol sign.Ge)) (some_op op.Ge o is) g.ge
compares_is t o is = absurd (none_op o is)

-- ---- `not`

-- this many `not`, and then these lexemes
abbrev with_nots : ℕ → Lexemes → Lexemes
with_nots zero us = us
with_nots (suc n) us = with_nots n (keyword word.Not ∷ us)

with_nots-cons : (n : ℕ) (us : Lexemes) → with_nots n (keyword word.Not ∷ us) ≡ keyword word.Not ∷ with_nots n us
with_nots-cons zero us = refl
with_nots-cons (suc n) us = with_nots-cons n (keyword word.Not ∷ us)

not_is : (t : Lexeme) → is_keyword word.Not (Some (kind_of t)) ≡ true → t ≡ keyword word.Not
not_is (name w) h = cc
not_is (int n) h = cc
not_is (text z) h = cc
not_is (keyword k) h = ap keyword (keywords_same k word.Not h)
not_is (symbol s) h = cc

first_not : (t : Lexeme) (ts : Lexemes) (b : Bool) → is_keyword word.Not (Some (kind_of t)) ≡ b → ts ≡ with_nots (leading_nots ts) (drop (leading_nots ts) ts) → (k : ℕ) → k ≡ cond b (suc (leading_nots ts)) 0 → t ∷ ts ≡ with_nots k (drop k (t ∷ ts))
first_not t ts false is h k e = rw e refl
first_not t ts true is h k e = rw e (ap (λ u. u ∷ ts) (not_is t is) ∙ ap (λ us. keyword word.Not ∷ us) h ∙ sym (with_nots-cons (leading_nots ts) (drop (leading_nots ts) ts)))

nots_first : (ts : Lexemes) → ts ≡ with_nots (leading_nots ts) (drop (leading_nots ts) ts)
nots_first [] = refl
nots_first (t ∷ ts) = first_not t ts (is_keyword word.Not (Some (kind_of t))) refl (nots_first ts) (leading_nots (t ∷ ts)) refl

negated_reads : (k : ℕ) (us : Lexemes) (n : ℕ) (x : PExpr) (st : State) → Read (IsExpr g.not) expr_nodes (at us n) x st → Gives (negated k x st) (Read (IsExpr g.not) expr_nodes (at (with_nots k us) n))
unfolding negated
negated_reads zero us n x st h = gives_some _ x st h
negated_reads (suc k) us n x st h =
    step (node_read (IsExpr g.not) expr_nodes (at (keyword word.Not ∷ us) n) st empty_expr (e.Not x) (e.Not h.tree) (expr_nodes h.tree) (g.not_not h.derived) h.spent (expr_nodes-Not h.tree) (λ le. ap e.Not (h.same le)))
    (λ y new j. negated_reads k (keyword word.Not ∷ us) n y new j)

-- ---- primaries

leaf : (old st : State) (tree : PExpr) → IsExpr g.prim old.rest tree st.rest → st.budget ≡ old.budget → expr_nodes tree ≡ 1 → Gives (expr_node tree st) (Read (IsExpr g.prim) expr_nodes old)
leaf old st tree d same sized = leaf_read (IsExpr g.prim) expr_nodes old st empty_expr tree d same sized

named_twice : (old s1 s2 : State) (w : Word) → Steps (name w) old s1 → Steps g.dot s1 s2 → Gives ((read_name >>= (λ v. expr_node (e.Col (col.Dotted w v)))) s2) (Read (IsExpr g.prim) expr_nodes old)
named_twice old s1 s2 w h dot =
    step (reads_name s2) (λ v last k. leaf old last (e.Col (col.Dotted w v)) (rw (h.rest, dot.rest, k.rest) (g.prim_col g.dotted)) (k.budget ∙ dot.budget ∙ h.budget) (expr_nodes-Col (col.Dotted w v)))

member_reads : (old s1 : State) (w : Word) (ts : Lexemes) (n : ℕ) → Steps (name w) old s1 → Steps g.dot s1 (at ts n) → Gives (member_by (first_kind ts) w (at ts n)) (Read (IsExpr g.prim) expr_nodes old)
member_reads old s1 w [] n h dot = named_twice old s1 (at [] n) w h dot
member_reads old s1 w (int i ∷ ts) n h dot =
    step (reads_int column_limit (at (int i ∷ ts) n)) (λ k last j. leaf old last (e.ScopeAt w k) (rw (h.rest, dot.rest, j.steps.rest) (g.prim_scope {n = k} (omega (arith, j.within)))) (j.steps.budget ∙ dot.budget ∙ h.budget) (expr_nodes-ScopeAt w k))
member_reads old s1 w (t ∷ ts) n h dot = named_twice old s1 (at (t ∷ ts) n) w h dot

named_read : (old s1 : State) (w : Word) (b : Bool) (s2 : State) → Steps (name w) old s1 → Ate g.dot s1 b s2 → Gives (named_by b w s2) (Read (IsExpr g.prim) expr_nodes old)
named_read old s1 w false s2 h ate = leaf old s2 (e.Col (col.Name w)) (rw h.rest (subst (λ s. IsExpr g.prim (name w ∷ s1.rest) (e.Col (col.Name w)) s.rest) ate (g.prim_col g.named))) (ap (λ s. s.budget) (sym ate) ∙ h.budget) (expr_nodes-Col (col.Name w))
named_read old s1 w true s2 h ate = member_reads old s1 w s2.rest s2.budget h ate

module _ (inner : Parser PExpr) (si : SoundExpr g.expr inner) where
  if_reads : (ts : Lexemes) (n : ℕ) → Gives (read_if inner (at (keyword word.If ∷ ts) n)) (Read (IsExpr g.prim) expr_nodes (at (keyword word.If ∷ ts) n))
  unfolding read_if
  if_reads ts n =
      step (expects_symbol sign.OpenParen (at ts n)) (λ u1 s1 h1. step (si s1) (λ c s2 hc. step (expects_symbol sign.Comma s2) (λ u2 s3 h3. step (si s3) (λ a s4 ha. step (expects_symbol sign.Comma s4) (λ u3 s5 h5. step (si s5) (λ b s6 hb. step (expects_symbol sign.CloseParen s6) (λ u4 s7 h7.
      let dc : IsExpr g.expr s1.rest hc.tree (g.comma ∷ s3.rest) = subst (IsExpr g.expr s1.rest hc.tree) h3.rest hc.derived in
      let da : IsExpr g.expr s3.rest ha.tree (g.comma ∷ s5.rest) = subst (IsExpr g.expr s3.rest ha.tree) h5.rest ha.derived in
      let db : IsExpr g.expr s5.rest hb.tree (g.close_paren ∷ s7.rest) = subst (IsExpr g.expr s5.rest hb.tree) h7.rest hb.derived in
      let cc1 : s3.budget ≡ spend n (expr_nodes hc.tree) = h3.budget ∙ hc.spent ∙ ap (λ k. spend k (expr_nodes hc.tree)) h1.budget in
      let ca : s5.budget ≡ spend s3.budget (expr_nodes ha.tree) = h5.budget ∙ ha.spent in
      let cb : s7.budget ≡ spend s5.budget (expr_nodes hb.tree) = h7.budget ∙ hb.spent in
      node_read (IsExpr g.prim) expr_nodes (at (keyword word.If ∷ ts) n) s7 empty_expr (e.If c a b) (e.If hc.tree ha.tree hb.tree) (expr_nodes hc.tree + (expr_nodes ha.tree + expr_nodes hb.tree))
      (subst (λ us. IsExpr g.prim (keyword word.If ∷ us) (e.If hc.tree ha.tree hb.tree) s7.rest) (sym h1.rest) (g.prim_if dc da db))
      (spends n s3.budget s7.budget (expr_nodes hc.tree) (expr_nodes ha.tree + expr_nodes hb.tree) cc1 (spends s3.budget s5.budget s7.budget (expr_nodes ha.tree) (expr_nodes hb.tree) ca cb))
      (expr_nodes-If hc.tree ha.tree hb.tree)
      (λ le.
      let l5 = had_some s5.budget s7.budget (expr_nodes hb.tree) cb le in
      let l3 = had_some s3.budget s5.budget (expr_nodes ha.tree) ca l5 in
      let pc = hc.same (subst (λ k. 0 < k) h3.budget l3) in
      let pa = ha.same (subst (λ k. 0 < k) h5.budget l5) in
      let pb = hb.same (subst (λ k. 0 < k) h7.budget le) in
      λ i. e.If (pc i) (pa i) (pb i)))))))))

  paren_reads : (ts : Lexemes) (n : ℕ) → Gives (parenthesized inner (at (g.open_paren ∷ ts) n)) (Read (IsExpr g.prim) expr_nodes (at (g.open_paren ∷ ts) n))
  unfolding parenthesized
  paren_reads ts n =
      step (si (at ts n)) (λ a s1 h. step (expects_symbol sign.CloseParen s1) (λ u s2 close.
      gives_some _ a s2 (record {
        tree = h.tree;
        derived = g.prim_paren (subst (IsExpr g.expr ts h.tree) close.rest h.derived);
        spent = close.budget ∙ h.spent;
        same = λ le. h.same (subst (λ k. 0 < k) close.budget le);
      })))

  prim_reads_at : (ts : Lexemes) (n : ℕ) → Gives (read_prim inner (at ts n)) (Read (IsExpr g.prim) expr_nodes (at ts n))
  unfolding read_prim int_literal negative_literal text_literal truth_literal read_param numbered_col named
  prim_reads_at [] n = gives_none _
  prim_reads_at (int i ∷ ts) n = step (reads_int int_limit (at (int i ∷ ts) n)) (λ k s h. leaf (at (int i ∷ ts) n) s (e.Lit ty.Int (value.Int (pos k))) (rw h.steps.rest (g.prim_int {n = k} (omega (arith, h.within)))) h.steps.budget (expr_nodes-Lit ty.Int (value.Int (pos k))))
  prim_reads_at (text z ∷ ts) n = step (reads_text (at (text z ∷ ts) n)) (λ y s h. leaf (at (text z ∷ ts) n) s (e.Lit ty.Text (value.Text y)) (rw h.rest g.prim_text) h.budget (expr_nodes-Lit ty.Text (value.Text y)))
  prim_reads_at (name w ∷ ts) n = step (reads_name (at (name w ∷ ts) n)) (λ v s1 h. step (eats_symbol sign.Dot s1) (λ b s2 ate. named_read (at (name w ∷ ts) n) s1 v b s2 h ate))
  prim_reads_at (keyword word.True ∷ ts) n = leaf (at (keyword word.True ∷ ts) n) (at ts n) (e.Lit ty.Bool (value.Bool true)) g.prim_true refl (expr_nodes-Lit ty.Bool (value.Bool true))
  prim_reads_at (keyword word.False ∷ ts) n = leaf (at (keyword word.False ∷ ts) n) (at ts n) (e.Lit ty.Bool (value.Bool false)) g.prim_false refl (expr_nodes-Lit ty.Bool (value.Bool false))
  prim_reads_at (keyword word.If ∷ ts) n = if_reads ts n
  prim_reads_at (symbol sign.Minus ∷ ts) n = step (reads_int (int_limit + 1) (at ts n)) (λ k s h. leaf (at (symbol sign.Minus ∷ ts) n) s (e.Lit ty.Int (value.Int (pos 0 -ℤ pos k))) (rw h.steps.rest (g.prim_negative {n = k} (omega (arith, h.within)))) h.steps.budget (expr_nodes-Lit ty.Int (value.Int (pos 0 -ℤ pos k))))
  prim_reads_at (symbol sign.Dollar ∷ ts) n = step (reads_name (at ts n)) (λ w s h. leaf (at (symbol sign.Dollar ∷ ts) n) s (e.Param w) (rw h.rest g.prim_param) h.budget (expr_nodes-Param w))
  prim_reads_at (symbol sign.Hash ∷ ts) n = step (reads_col_number ts n) (λ c s h. leaf (at (symbol sign.Hash ∷ ts) n) s (e.Col c) (g.prim_col h.derived) h.budget (expr_nodes-Col c))
  prim_reads_at (symbol sign.OpenParen ∷ ts) n = paren_reads ts n
  prim_reads_at (t ∷ ts) n = gives_none _

  prim_reads : SoundExpr g.prim (read_prim inner)
  prim_reads st = prim_reads_at st.rest st.budget

  term_reads : SoundExpr g.term (read_term inner)
  unfolding read_term
  term_reads = chain_reads g.term g.prim term_operator (read_prim inner) refl term_joins prim_reads (λ ts us a d. g.term_prim d)

  sum_reads : SoundExpr g.sum (read_sum inner)
  unfolding read_sum
  sum_reads = chain_reads g.sum g.term sum_operator (read_term inner) refl sum_joins term_reads (λ ts us a d. g.sum_term d)

  compared_reads : (old : State) (x : PExpr) (ts : Lexemes) (k : ℕ) (o : Option Op) → comparison (first_kind ts) ≡ o → Read (IsExpr g.sum) expr_nodes old x (at ts k) → Gives (compared o (read_sum inner) x (at ts k)) (Read (IsExpr g.cmp) expr_nodes old)
  compared_reads old x ts k None is h = gives_some _ x (at ts k) (lift g.cmp g.sum old x (at ts k) (λ vs us a d. g.cmp_sum d) h)
  compared_reads old x [] k (Some o) is h = absurd (none_op o is)
  compared_reads old x (t ∷ us) k (Some o) is h = step (sum_reads (at us k)) (λ y st j. bin_read g.sum g.cmp g.sum o old t us k x y st (λ ts vs a b d f. g.compares (compares_is t o is) d f) h j)

  cmp_reads : SoundExpr g.cmp (read_cmp inner)
  unfolding read_cmp
  cmp_reads st = step (sum_reads st) (λ x new h. compared_reads st x new.rest new.budget (comparison (first_kind new.rest)) refl h)

  not_reads : SoundExpr g.not (read_not inner)
  unfolding read_not read_nots
  not_reads st =
      step (cmp_reads (at (drop (leading_nots st.rest) st.rest) st.budget)) (λ x new h.
      subst (λ us. Gives (negated (leading_nots st.rest) x new) (Read (IsExpr g.not) expr_nodes (at us st.budget))) (sym (nots_first st.rest))
      (negated_reads (leading_nots st.rest) (drop (leading_nots st.rest) st.rest) st.budget x new (lift g.not g.cmp (at (drop (leading_nots st.rest) st.rest) st.budget) x new (λ ts us a d. g.not_cmp d) h)))

  and_reads : SoundExpr g.and (read_and inner)
  unfolding read_and
  and_reads = chain_reads g.and g.not and_operator (read_not inner) refl and_joins not_reads (λ ts us a d. g.and_not d)

  or_reads : SoundExpr g.expr (read_or inner)
  unfolding read_or
  or_reads = chain_reads g.expr g.and or_operator (read_and inner) refl or_joins and_reads (λ ts us a d. g.expr_and d)

pub expr_reads : (n : ℕ) → SoundExpr g.expr (expr_at n)
unfolding expr_at
expr_reads zero st = gives_none _
expr_reads (suc n) st = or_reads (expr_at n) (expr_reads n) st
