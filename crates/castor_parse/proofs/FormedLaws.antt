-- Each part of a tree that the grammar derives is formed, where the lexemes are.
use Rattle.std.proofs.Common.{◌≡◌, ℕ, Bool, true, ◌&&◌, List, [], ◌∷◌, length, Option, refl, sym, ap, ◌∙◌}
use Rattle.std.specs.Prelude.{map, nat_le, All}
use Rattle.std.proofs.lemmas.List.Elements.{All-head, All-tail}
use Rattle.std.specs.List.{list_all}
use Rattle.castor_val.specs.declared.value.Ty.{Ty}
use Rattle.castor_val.specs.declared.value.Ty.TheVariants as ty
use Rattle.castor_val.specs.declared.value.Value.{Value}
use Rattle.castor_val.specs.declared.value.Value.TheVariants as value
use Rattle.castor_alg.specs.declared.expr.Op.{Op}
use Rattle.castor_alg.specs.declared.expr.Op.TheVariants as op
use Rattle.castor_tokens.specs.declared.token.Kind.{Kind}
use Rattle.castor_tokens.specs.declared.token.Kind.TheVariants as kind
use Rattle.castor_tokens.specs.declared.token.Span.{Span}
use Rattle.castor_tokens.specs.declared.token.Token.{Token}
use Rattle.castor_tree.specs.declared.tree.Word.{Word}
use Rattle.castor_tree.specs.declared.tree.Decl.{Decl}
use Rattle.castor_tree.specs.declared.tree.PCol.{PCol}
use Rattle.castor_tree.specs.declared.tree.PAgg.{PAgg}
use Rattle.castor_tree.specs.declared.tree.PBound.{PBound}
use Rattle.castor_tree.specs.declared.tree.Item.{Item}
use Rattle.castor_tree.specs.declared.tree.PExpr.{PExpr, fold-roll-PExpr}
use Rattle.castor_tree.specs.declared.tree.PExpr.TheVariants as e
use Rattle.castor_tree.specs.declared.tree.PExpr.TheOpen as E
use Rattle.castor_tree.specs.declared.tree.PRel.{PRel, fold-roll-PRel}
use Rattle.castor_tree.specs.declared.tree.PRel.TheVariants as r
use Rattle.castor_tree.specs.declared.tree.PRel.TheOpen as R
use Rattle.castor_tokens.specs.Tokens.{Bytes}
use Rattle.castor_tokens.specs.Cut.{StandsAt, Stands}
use Rattle.castor_parse.specs.Lexemes.{Lexeme, name, int, text, keyword, symbol, Lexemes, lexeme_of, lexemes}
use Rattle.castor_parse.specs.Limits.{is_short}
use Rattle.castor_parse.specs.Grammar as g
use Rattle.castor_parse.specs.Grammar.{Level, Separated, MaybeSeparated, IsCol, IsAlias, IsExpr, IsItem, IsAggregate, IsAgg, IsKey, IsLower, IsUpper, IsRel, AreRels, IsType, IsColumn, IsDecl, AreDecls, IsFile}
use Rattle.castor_tree.specs.Formed.{is_word, is_alias, is_col, is_literal, expr_formed_step, is_expr_formed, is_item_formed, is_aggregate_formed, is_agg_formed, is_key_formed, is_bound_formed, has_some, are_true, formed_step, is_formed, is_column_formed, is_decl_formed}
use Rattle.castor_parse.proofs.Past.{and_first, and_second}

formed-Col : (c : PCol) → is_expr_formed (e.Col c) ≡ is_col c
formed-Col c = ap is_expr_formed (sym (e.rolls-Col c)) ∙ fold-roll-PExpr Bool expr_formed_step (E.Col c)

formed-ScopeAt : (k : Word) (n : ℕ) → is_expr_formed (e.ScopeAt k n) ≡ is_word k
formed-ScopeAt k n = ap is_expr_formed (sym (e.rolls-ScopeAt k n)) ∙ fold-roll-PExpr Bool expr_formed_step (E.ScopeAt k n)

formed-Param : (p : Word) → is_expr_formed (e.Param p) ≡ is_word p
formed-Param p = ap is_expr_formed (sym (e.rolls-Param p)) ∙ fold-roll-PExpr Bool expr_formed_step (E.Param p)

formed-Lit : (t : Ty) (v : Value) → is_expr_formed (e.Lit t v) ≡ is_literal t v
formed-Lit t v = ap is_expr_formed (sym (e.rolls-Lit t v)) ∙ fold-roll-PExpr Bool expr_formed_step (E.Lit t v)

formed-Bin : (o : Op) (a b : PExpr) → is_expr_formed (e.Bin o a b) ≡ (is_expr_formed a && is_expr_formed b)
formed-Bin o a b = ap is_expr_formed (sym (e.rolls-Bin o a b)) ∙ fold-roll-PExpr Bool expr_formed_step (E.Bin o a b)

formed-Not : (a : PExpr) → is_expr_formed (e.Not a) ≡ is_expr_formed a
formed-Not a = ap is_expr_formed (sym (e.rolls-Not a)) ∙ fold-roll-PExpr Bool expr_formed_step (E.Not a)

formed-If : (c a b : PExpr) → is_expr_formed (e.If c a b) ≡ (is_expr_formed c && (is_expr_formed a && is_expr_formed b))
formed-If c a b = ap is_expr_formed (sym (e.rolls-If c a b)) ∙ fold-roll-PExpr Bool expr_formed_step (E.If c a b)

formed_rel-Table : (w : Word) → is_formed (r.Table w) ≡ is_word w
formed_rel-Table w = ap is_formed (sym (r.rolls-Table w)) ∙ fold-roll-PRel Bool formed_step (R.Table w)

formed_rel-Scalar : (i : Item) → is_formed (r.Scalar i) ≡ is_item_formed i
formed_rel-Scalar i = ap is_formed (sym (r.rolls-Scalar i)) ∙ fold-roll-PRel Bool formed_step (R.Scalar i)

formed_rel-Cross : (ps : List PRel) → is_formed (r.Cross ps) ≡ (has_some (map is_formed ps) && are_true (map is_formed ps))
formed_rel-Cross ps = ap is_formed (sym (r.rolls-Cross ps)) ∙ fold-roll-PRel Bool formed_step (R.Cross ps)

formed_rel-Concat : (ps : List PRel) → is_formed (r.Concat ps) ≡ (has_some (map is_formed ps) && are_true (map is_formed ps))
formed_rel-Concat ps = ap is_formed (sym (r.rolls-Concat ps)) ∙ fold-roll-PRel Bool formed_step (R.Concat ps)

formed_rel-Select : (is : List Item) (p : PRel) → is_formed (r.Select is p) ≡ (has_some is && (list_all is_item_formed is && is_formed p))
formed_rel-Select is p = ap is_formed (sym (r.rolls-Select is p)) ∙ fold-roll-PRel Bool formed_step (R.Select is p)

formed_rel-Filter : (a : PExpr) (p : PRel) → is_formed (r.Filter a p) ≡ (is_expr_formed a && is_formed p)
formed_rel-Filter a p = ap is_formed (sym (r.rolls-Filter a p)) ∙ fold-roll-PRel Bool formed_step (R.Filter a p)

formed_rel-Join : (a : PExpr) (p q : PRel) → is_formed (r.Join a p q) ≡ (is_expr_formed a && (is_formed p && is_formed q))
formed_rel-Join a p q = ap is_formed (sym (r.rolls-Join a p q)) ∙ fold-roll-PRel Bool formed_step (R.Join a p q)

formed_rel-DepJoin : (k : Word) (p q : PRel) → is_formed (r.DepJoin k p q) ≡ (is_word k && (is_formed p && is_formed q))
formed_rel-DepJoin k p q = ap is_formed (sym (r.rolls-DepJoin k p q)) ∙ fold-roll-PRel Bool formed_step (R.DepJoin k p q)

formed_rel-List : (k : Word) (p q : PRel) → is_formed (r.List k p q) ≡ (is_word k && (is_formed p && is_formed q))
formed_rel-List k p q = ap is_formed (sym (r.rolls-List k p q)) ∙ fold-roll-PRel Bool formed_step (R.List k p q)

formed_rel-Hash : (k : Word) (p q : PRel) (keys : List PExpr) → is_formed (r.Hash k p q keys) ≡ (is_word k && (is_formed p && (is_formed q && (has_some keys && list_all is_expr_formed keys))))
formed_rel-Hash k p q keys = ap is_formed (sym (r.rolls-Hash k p q keys)) ∙ fold-roll-PRel Bool formed_step (R.Hash k p q keys)

formed_rel-Ord : (k : Word) (p q : PRel) (lo hi : PBound) → is_formed (r.Ord k p q lo hi) ≡ (is_word k && (is_formed p && (is_formed q && (is_bound_formed lo && is_bound_formed hi))))
formed_rel-Ord k p q lo hi = ap is_formed (sym (r.rolls-Ord k p q lo hi)) ∙ fold-roll-PRel Bool formed_step (R.Ord k p q lo hi)

formed_rel-Group : (keys : List PCol) (aggs : List (PAgg × Option Word)) (p : PRel) → is_formed (r.Group keys aggs p) ≡ (list_all is_col keys && (list_all is_agg_formed aggs && is_formed p))
formed_rel-Group keys aggs p = ap is_formed (sym (r.rolls-Group keys aggs p)) ∙ fold-roll-PRel Bool formed_step (R.Group keys aggs p)

formed_rel-Order : (keys : List (PCol × Bool)) (p : PRel) → is_formed (r.Order keys p) ≡ (has_some keys && (list_all is_key_formed keys && is_formed p))
formed_rel-Order keys p = ap is_formed (sym (r.rolls-Order keys p)) ∙ fold-roll-PRel Bool formed_step (R.Order keys p)

formed_rel-Dedup : (p : PRel) → is_formed (r.Dedup p) ≡ is_formed p
formed_rel-Dedup p = ap is_formed (sym (r.rolls-Dedup p)) ∙ fold-roll-PRel Bool formed_step (R.Dedup p)

-- a name is one of at most 64 bytes, and a text has at most 65,535 bytes
abbrev pub is_good : Lexeme → Bool
is_good (name w) = is_word w
is_good (int n) = true
is_good (text z) = nat_le (length z) 65535
is_good (keyword k) = true
is_good (symbol s) = true

abbrev pub Good : Lexemes → Type 0
Good ts = list_all is_good ts ≡ true

-- a part is formed, and the lexemes behind it are good
abbrev Formed : Bool → Lexemes → Type 0
Formed b us = (b ≡ true) × Good us

and_true : {a b : Bool} → a ≡ true → b ≡ true → (a && b) ≡ true
and_true h k = (λ i. h i && k i)

skip : (t : Lexeme) (ts : Lexemes) → Good (t ∷ ts) → Good ts
skip t ts h = and_second (is_good t) (list_all is_good ts) h

first : (t : Lexeme) (ts : Lexemes) → Good (t ∷ ts) → is_good t ≡ true
first t ts h = and_first (is_good t) (list_all is_good ts) h

col_formed : {ts us : Lexemes} {c : PCol} → IsCol ts c us → Good ts → Formed (is_col c) us
col_formed (g.named {ts} {w}) h = (first (name w) (ts) h, skip (name w) (ts) h)
col_formed (g.dotted {ts} {v} {w}) h =
    let h1 = skip (name v) (g.dot ∷ name w ∷ ts) h in
    let h2 = skip (g.dot) (name w ∷ ts) h1 in
    (and_true (first (name v) (g.dot ∷ name w ∷ ts) h) (first (name w) (ts) h2), skip (name w) (ts) h2)
col_formed (g.numbered le) h = (refl, h)

alias_formed : {ts us : Lexemes} {called : Option Word} → IsAlias ts called us → Good ts → Formed (is_alias called) us
alias_formed g.no_alias h = (refl, h)
alias_formed (g.alias {ts} {w}) h = (first (name w) (ts) h, skip (name w) (ts) h)

bin_formed : (o : Op) (a b : PExpr) (us : Lexemes) → is_expr_formed a ≡ true → Formed (is_expr_formed b) us → Formed (is_expr_formed (e.Bin o a b)) us
bin_formed o a b us h k = (formed-Bin o a b ∙ and_true h k.0, k.1)

expr_formed : {l : Level} {ts us : Lexemes} {a : PExpr} → IsExpr l ts a us → Good ts → Formed (is_expr_formed a) us
expr_formed (g.expr_and d) h = expr_formed d h
expr_formed (g.expr_or {vs = vs} {a = a} {b = b} d f) h = let x = expr_formed d h in bin_formed op.Or a b vs x.0 (expr_formed f x.1)
expr_formed (g.and_not d) h = expr_formed d h
expr_formed (g.and_and {vs = vs} {a = a} {b = b} d f) h = let x = expr_formed d h in bin_formed op.And a b vs x.0 (expr_formed f x.1)
expr_formed (g.not_not {a = a} d) h = let x = expr_formed d h in (formed-Not a ∙ x.0, x.1)
expr_formed (g.not_cmp d) h = expr_formed d h
expr_formed (g.cmp_sum d) h = expr_formed d h
expr_formed (g.compares {us = us} {vs = vs} {t = t} {o = o} {a = a} {b = b} c d f) h = let x = expr_formed d h in bin_formed o a b vs x.0 (expr_formed f (skip t us x.1))
expr_formed (g.sum_term d) h = expr_formed d h
expr_formed (g.sum_plus {vs = vs} {a = a} {b = b} d f) h = let x = expr_formed d h in bin_formed op.Add a b vs x.0 (expr_formed f x.1)
expr_formed (g.sum_minus {vs = vs} {a = a} {b = b} d f) h = let x = expr_formed d h in bin_formed op.Sub a b vs x.0 (expr_formed f x.1)
expr_formed (g.term_prim d) h = expr_formed d h
expr_formed (g.term_star {vs = vs} {a = a} {b = b} d f) h = let x = expr_formed d h in bin_formed op.Mul a b vs x.0 (expr_formed f x.1)
expr_formed (g.term_slash {vs = vs} {a = a} {b = b} d f) h = let x = expr_formed d h in bin_formed op.Div a b vs x.0 (expr_formed f x.1)
expr_formed (g.term_percent {vs = vs} {a = a} {b = b} d f) h = let x = expr_formed d h in bin_formed op.Rem a b vs x.0 (expr_formed f x.1)
expr_formed (g.prim_int le) h = (formed-Lit ty.Int _, h)
expr_formed (g.prim_negative le) h = (formed-Lit ty.Int _, h)
expr_formed (g.prim_text {ts} {z}) h = (formed-Lit ty.Text (value.Text z) ∙ first (text z) (ts) h, skip (text z) (ts) h)
expr_formed g.prim_true h = (formed-Lit ty.Bool _, h)
expr_formed g.prim_false h = (formed-Lit ty.Bool _, h)
expr_formed (g.prim_param {ts} {w}) h = (formed-Param w ∙ first (name w) (ts) h, skip (name w) (ts) h)
expr_formed (g.prim_col {c = c} d) h = let x = col_formed d h in (formed-Col c ∙ x.0, x.1)
expr_formed (g.prim_scope {ts} {w} {n} le) h = (formed-ScopeAt w n ∙ first (name w) (g.dot ∷ int n ∷ ts) h, skip (name w) (g.dot ∷ int n ∷ ts) h)
expr_formed (g.prim_if {c = c} {a = a} {b = b} d f k) h =
    let x = expr_formed d h in
    let y = expr_formed f x.1 in
    let z = expr_formed k y.1 in
    (formed-If c a b ∙ and_true x.0 (and_true y.0 z.0), z.1)
expr_formed (g.prim_paren d) h = expr_formed d h

item_formed : {ts us : Lexemes} {i : Item} → IsItem ts i us → Good ts → Formed (is_item_formed i) us
item_formed (g.item d f) h = let x = expr_formed d h in let y = alias_formed f x.1 in (and_true x.0 y.0, y.1)

aggregate_formed : {ts us : Lexemes} {a : PAgg} → IsAggregate ts a us → Good ts → Formed (is_aggregate_formed a) us
aggregate_formed g.count h = (refl, h)
aggregate_formed (g.sum_of d) h = col_formed d h
aggregate_formed (g.min_of d) h = col_formed d h
aggregate_formed (g.max_of d) h = col_formed d h

agg_formed : {ts us : Lexemes} {a : PAgg × Option Word} → IsAgg ts a us → Good ts → Formed (is_agg_formed a) us
agg_formed (g.aggregate d f) h = let x = aggregate_formed d h in let y = alias_formed f x.1 in (and_true x.0 y.0, y.1)

key_formed : {ts us : Lexemes} {k : PCol × Bool} → IsKey ts k us → Good ts → Formed (is_key_formed k) us
key_formed (g.rising d) h = col_formed d h
key_formed (g.asc d) h = col_formed d h
key_formed (g.desc d) h = col_formed d h

lower_formed : {ts us : Lexemes} {b : PBound} → IsLower ts b us → Good ts → Formed (is_bound_formed b) us
lower_formed g.any_lower h = (refl, h)
lower_formed (g.from d) h = expr_formed d h
lower_formed (g.above d) h = expr_formed d h

upper_formed : {ts us : Lexemes} {b : PBound} → IsUpper ts b us → Good ts → Formed (is_bound_formed b) us
upper_formed g.any_upper h = (refl, h)
upper_formed (g.up_to d) h = expr_formed d h
upper_formed (g.below d) h = expr_formed d h

-- a list has a member, and each of it is formed
abbrev AllFormed : {A : Type 0} → (A → Bool) → List A → Lexemes → Type 0
AllFormed formed xs us = (has_some xs ≡ true) × ((list_all formed xs ≡ true) × Good us)

separated_formed : {A : Type 0} (R : Lexemes → A → Lexemes → Type 0) (formed : A → Bool) → ((ts us : Lexemes) (x : A) → R ts x us → Good ts → Formed (formed x) us) → {ts us : Lexemes} {xs : List A} → Separated R ts xs us → Good ts → AllFormed formed xs us
separated_formed R formed each (g.last {ts} {us} {x} d) h = let y = each ts us x d h in (refl, (and_true y.0 refl, y.1))
separated_formed R formed each (g.more {ts} {us} {vs} {x} {xs} d s) h =
    let y = each ts (g.comma ∷ us) x d h in
    let z = separated_formed R formed each s y.1 in
    (refl, (and_true y.0 z.1.0, z.1.1))

maybe_formed : {A : Type 0} (R : Lexemes → A → Lexemes → Type 0) (formed : A → Bool) → ((ts us : Lexemes) (x : A) → R ts x us → Good ts → Formed (formed x) us) → {ts us : Lexemes} {xs : List A} → MaybeSeparated R ts xs us → Good ts → Formed (list_all formed xs) us
maybe_formed R formed each g.no_items h = (refl, h)
maybe_formed R formed each (g.some_items s) h = (separated_formed R formed each s h).1

mutual
  rel_formed : {ts us : Lexemes} {p : PRel} → IsRel ts p us → Good ts → Formed (is_formed p) us
  rel_formed (g.table {ts} {w}) h = (formed_rel-Table w ∙ first (name w) (ts) h, skip (name w) (ts) h)
  rel_formed (g.scalar {i = i} d) h = let x = item_formed d h in (formed_rel-Scalar i ∙ x.0, x.1)
  rel_formed (g.cross {ps = ps} s) h = let x = rels_formed s h in (formed_rel-Cross ps ∙ and_true x.0 x.1.0, x.1.1)
  rel_formed (g.concat {ps = ps} s) h = let x = rels_formed s h in (formed_rel-Concat ps ∙ and_true x.0 x.1.0, x.1.1)
  rel_formed (g.select {is = is} {p = p} s d) h =
      let x = separated_formed IsItem is_item_formed (λ ts us i f k. item_formed f k) s h in
      let y = rel_formed d x.1.1 in
      (formed_rel-Select is p ∙ and_true x.0 (and_true x.1.0 y.0), y.1)
  rel_formed (g.filter {a = a} {p = p} d f) h = let x = expr_formed d h in let y = rel_formed f x.1 in (formed_rel-Filter a p ∙ and_true x.0 y.0, y.1)
  rel_formed (g.join {a = a} {p = p} {q = q} d f k) h =
      let x = expr_formed d h in
      let y = rel_formed f x.1 in
      let z = rel_formed k y.1 in
      (formed_rel-Join a p q ∙ and_true x.0 (and_true y.0 z.0), z.1)
  rel_formed (g.depjoin {us = us} {k = w} {p = p} {q = q} d f) h =
      let x = rel_formed d h in
      let scope = first (name w) (g.comma ∷ us) x.1 in
      let y = rel_formed f (skip (name w) (g.comma ∷ us) x.1) in
      (formed_rel-DepJoin w p q ∙ and_true scope (and_true x.0 y.0), y.1)
  rel_formed (g.list {us = us} {k = w} {p = p} {q = q} d f) h =
      let x = rel_formed d h in
      let scope = first (name w) (g.comma ∷ us) x.1 in
      let y = rel_formed f (skip (name w) (g.comma ∷ us) x.1) in
      (formed_rel-List w p q ∙ and_true scope (and_true x.0 y.0), y.1)
  rel_formed (g.hash {us = us} {k = w} {p = p} {q = q} {keys = keys} d f s) h =
      let x = rel_formed d h in
      let scope = first (name w) (g.comma ∷ us) x.1 in
      let y = rel_formed f (skip (name w) (g.comma ∷ us) x.1) in
      let z = separated_formed (IsExpr g.expr) is_expr_formed (λ ts us a i j. expr_formed i j) s y.1 in
      (formed_rel-Hash w p q keys ∙ and_true scope (and_true x.0 (and_true y.0 (and_true z.0 z.1.0))), z.1.1)
  rel_formed (g.ordered {us = us} {k = w} {p = p} {q = q} {lo = lo} {hi = hi} d f a b) h =
      let x = rel_formed d h in
      let scope = first (name w) (g.comma ∷ us) x.1 in
      let y = rel_formed f (skip (name w) (g.comma ∷ us) x.1) in
      let z = lower_formed a y.1 in
      let v = upper_formed b z.1 in
      (formed_rel-Ord w p q lo hi ∙ and_true scope (and_true x.0 (and_true y.0 (and_true z.0 v.0))), v.1)
  rel_formed (g.groupby {ks = ks} {aggs = aggs} {p = p} s t d) h =
      let x = maybe_formed IsCol is_col (λ ts us c i j. col_formed i j) s h in
      let y = maybe_formed IsAgg is_agg_formed (λ ts us c i j. agg_formed i j) t x.1 in
      let z = rel_formed d y.1 in
      (formed_rel-Group ks aggs p ∙ and_true x.0 (and_true y.0 z.0), z.1)
  rel_formed (g.orderby {ks = ks} {p = p} s d) h =
      let x = separated_formed IsKey is_key_formed (λ ts us c i j. key_formed i j) s h in
      let y = rel_formed d x.1.1 in
      (formed_rel-Order ks p ∙ and_true x.0 (and_true x.1.0 y.0), y.1)
  rel_formed (g.dedup {p = p} d) h = let x = rel_formed d h in (formed_rel-Dedup p ∙ x.0, x.1)

  rels_formed : {ts us : Lexemes} {ps : List PRel} → AreRels ts ps us → Good ts → (has_some (map is_formed ps) ≡ true) × ((are_true (map is_formed ps) ≡ true) × Good us)
  rels_formed (g.last_rel d) h = let x = rel_formed d h in (refl, (and_true x.0 refl, x.1))
  rels_formed (g.more_rels d s) h = let x = rel_formed d h in let y = rels_formed s x.1 in (refl, (and_true x.0 y.1.0, y.1.1))

type_good : {ts us : Lexemes} {t : Ty} → IsType ts t us → Good ts → Good us
type_good g.int_type h = h
type_good g.bool_type h = h
type_good g.text_type h = h

column_formed : {ts us : Lexemes} {c : Word × Ty} → IsColumn ts c us → Good ts → Formed (is_column_formed c) us
column_formed (g.column {ts} {w = w} d) h = (first (name w) (ts) h, type_good d (skip (name w) (ts) h))

decl_formed : {ts us : Lexemes} {d : Decl} → IsDecl ts d us → Good ts → Formed (is_decl_formed d) us
decl_formed (g.table_decl {ts} {w = w} s) h =
    let x = separated_formed IsColumn is_column_formed (λ ts us c i j. column_formed i j) s (skip (name w) (g.open_paren ∷ ts) h) in
    (and_true (first (name w) (g.open_paren ∷ ts) h) (and_true x.0 x.1.0), x.1.1)
decl_formed (g.param_decl {ts} {w = w} d) h = (first (name w) (ts) h, type_good d (skip (name w) (ts) h))

decls_formed : {ts us : Lexemes} {ds : List Decl} → AreDecls ts ds us → Good ts → Formed (list_all is_decl_formed ds) us
decls_formed g.no_decls h = (refl, h)
decls_formed (g.more_decls d s) h = let x = decl_formed d h in let y = decls_formed s x.1 in (and_true x.0 y.0, y.1)

-- a file of good lexemes is formed
pub file_formed : {ts : Lexemes} {ds : List Decl} {q : PRel} → IsFile ts ds q → Good ts → (list_all is_decl_formed ds ≡ true) × (is_formed q ≡ true)
file_formed (g.file s d) h = let x = decls_formed s h in (x.0, (rel_formed d x.1).0)

-- a token that stands in the text and is short is good
token_good : (z : Bytes) (k : Kind) (at : Span) → StandsAt z k at.from at.to → is_short (lexeme_of z k at) ≡ true → is_good (lexeme_of z k at) ≡ true
token_good z kind.Name at h short = and_true h.4 short
token_good z kind.Int at h short = refl
token_good z kind.Text at h short = short
token_good z (kind.Keyword k) at h short = refl
token_good z (kind.Symbol s) at h short = refl

-- tokens that stand in the text and are short are good
pub tokens_good : (z : Bytes) (ts : List Token) → All (Stands z) ts → list_all is_short (lexemes z ts) ≡ true → Good (lexemes z ts)
tokens_good z [] h short = refl
tokens_good z (t ∷ ts) h short =
    and_true (token_good z t.kind t.span (All-head (Stands z) t ts h) (and_first (is_short (lexeme_of z t.kind t.span)) (list_all is_short (lexemes z ts)) short))
    (tokens_good z ts (All-tail (Stands z) t ts h) (and_second (is_short (lexeme_of z t.kind t.span)) (list_all is_short (lexemes z ts)) short))
