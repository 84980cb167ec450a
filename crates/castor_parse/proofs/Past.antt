-- What a derivation passes: it leaves no more lexemes than it had, and as many parentheses open.
use Rattle.std.proofs.Common.{◌≡◌, ℕ, ◌+◌, ◌-◌, ◌≤◌, Bool, true, false, ◌&&◌, List, ◌∷◌, length, Option, refl, subst, arith}
use Rattle.std.specs.Prelude.{nat_le}
use Rattle.castor_val.specs.declared.value.Ty.{Ty}
use Rattle.castor_alg.specs.declared.expr.Op.{Op}
use Rattle.castor_tokens.specs.declared.token.Keyword.TheVariants as word
use Rattle.castor_tokens.specs.declared.token.Symbol.TheVariants as sign
use Rattle.castor_tree.specs.declared.tree.Word.{Word}
use Rattle.castor_tree.specs.declared.tree.Decl.{Decl}
use Rattle.castor_tree.specs.declared.tree.PCol.{PCol}
use Rattle.castor_tree.specs.declared.tree.PExpr.{PExpr}
use Rattle.castor_tree.specs.declared.tree.Item.{Item}
use Rattle.castor_tree.specs.declared.tree.PAgg.{PAgg}
use Rattle.castor_tree.specs.declared.tree.PBound.{PBound}
use Rattle.castor_tree.specs.declared.tree.PRel.{PRel}
use Rattle.castor_parse.specs.Lexemes.{Lexeme, name, int, text, keyword, symbol, Lexemes}
use Rattle.castor_parse.specs.Limits.{opened, are_few_open}
use Rattle.castor_parse.specs.Grammar as g
use Rattle.castor_parse.specs.Grammar.{Level, Separated, MaybeSeparated, IsCol, IsAlias, IsExpr, Compares, IsItem, IsAggregate, IsAgg, IsKey, IsLower, IsUpper, IsRel, AreRels, IsType, IsColumn, IsDecl, AreDecls}

pub record Past (ts us : Lexemes) : Type 0 where
  pub shorter : length us ≤ length ts
  pub stays : (k : ℕ) → are_few_open k ts ≡ true → are_few_open k us ≡ true

pub and_first : (a b : Bool) → (a && b) ≡ true → a ≡ true
and_first true b h = refl
and_first false b h = cc

pub and_second : (a b : Bool) → (a && b) ≡ true → b ≡ true
and_second true b h = h
and_second false b h = cc

-- a token that neither opens nor closes
abbrev pub IsPlain : Lexeme → Type 0
IsPlain t = (k : ℕ) → opened k t ≡ k

pub nothing_past : (ts : Lexemes) → Past ts ts
nothing_past ts = record { shorter = omega arith; stays = λ k h. h }

pub both_past : {ts us vs : Lexemes} → Past ts us → Past us vs → Past ts vs
both_past p q = record { shorter = omega (arith, p.shorter, q.shorter); stays = λ k h. q.stays k (p.stays k h) }

pub token_past : (t : Lexeme) (ts : Lexemes) → IsPlain t → Past (t ∷ ts) ts
token_past t ts same = record { shorter = omega arith; stays = λ k h. subst (λ j. are_few_open j ts ≡ true) (same k) (and_second (nat_le (opened k t) 256) (are_few_open (opened k t) ts) h) }

-- a tree, a token and another tree
pub around : {ts us vs : Lexemes} (t : Lexeme) → IsPlain t → Past ts (t ∷ us) → Past us vs → Past ts vs
around t same p q = both_past p (both_past (token_past t _ same) q)

-- a token in front
pub behind : {ts us : Lexemes} (t : Lexeme) → IsPlain t → Past ts us → Past (t ∷ ts) us
behind t same p = both_past (token_past t _ same) p

-- a token at the end
pub before : {ts us : Lexemes} (t : Lexeme) → IsPlain t → Past ts (t ∷ us) → Past ts us
before t same p = both_past p (token_past t _ same)

one_less : (k : ℕ) → k + 1 - 1 ≡ k
one_less k = omega arith

-- what stands in parentheses or brackets
grouped : (o c : Lexeme) → ((k : ℕ) → opened k o ≡ k + 1) → ((k : ℕ) → opened (k + 1) c ≡ k) → {ts us : Lexemes} → Past ts (c ∷ us) → Past (o ∷ ts) us
grouped o c opens closes {ts} {us} p = record {
  shorter = omega (arith, p.shorter);
  stays = λ k h.
      let inside : are_few_open (k + 1) ts ≡ true = subst (λ j. are_few_open j ts ≡ true) (opens k) (and_second (nat_le (opened k o) 256) (are_few_open (opened k o) ts) h) in
      let after = p.stays (k + 1) inside in
      subst (λ j. are_few_open j us ≡ true) (closes k) (and_second (nat_le (opened (k + 1) c) 256) (are_few_open (opened (k + 1) c) us) after);
}

pub in_parens : {ts us : Lexemes} → Past ts (g.close_paren ∷ us) → Past (g.open_paren ∷ ts) us
in_parens p = grouped g.open_paren g.close_paren (λ k. refl) one_less p

pub in_brackets : {ts us : Lexemes} → Past ts (g.close_bracket ∷ us) → Past (g.open_bracket ∷ ts) us
in_brackets p = grouped g.open_bracket g.close_bracket (λ k. refl) one_less p

pub col_past : {ts us : Lexemes} {c : PCol} → IsCol ts c us → Past ts us
col_past (g.named {ts} {w}) = token_past (name w) ts (λ k. refl)
col_past (g.dotted {ts} {v} {w}) = behind (name v) (λ k. refl) (behind g.dot (λ k. refl) (token_past (name w) ts (λ k. refl)))
col_past (g.numbered {ts} {n} le) = behind (symbol sign.Hash) (λ k. refl) (token_past (int n) ts (λ k. refl))

pub alias_past : {ts us : Lexemes} {called : Option Word} → IsAlias ts called us → Past ts us
alias_past (g.no_alias {ts}) = nothing_past ts
alias_past (g.alias {ts} {w}) = behind (keyword word.As) (λ k. refl) (token_past (name w) ts (λ k. refl))

pub compare_plain : {t : Lexeme} {o : Op} → Compares t o → IsPlain t
compare_plain g.eq k = refl
compare_plain g.ne k = refl
compare_plain g.lt k = refl
compare_plain g.le k = refl
compare_plain g.gt k = refl
compare_plain g.ge k = refl

pub expr_past : {l : Level} {ts us : Lexemes} {a : PExpr} → IsExpr l ts a us → Past ts us
expr_past (g.expr_and d) = expr_past d
expr_past (g.expr_or d f) = around (keyword word.Or) (λ k. refl) (expr_past d) (expr_past f)
expr_past (g.and_not d) = expr_past d
expr_past (g.and_and d f) = around (keyword word.And) (λ k. refl) (expr_past d) (expr_past f)
expr_past (g.not_not d) = behind (keyword word.Not) (λ k. refl) (expr_past d)
expr_past (g.not_cmp d) = expr_past d
expr_past (g.cmp_sum d) = expr_past d
expr_past (g.compares {t = t} c d f) = around t (compare_plain c) (expr_past d) (expr_past f)
expr_past (g.sum_term d) = expr_past d
expr_past (g.sum_plus d f) = around (symbol sign.Plus) (λ k. refl) (expr_past d) (expr_past f)
expr_past (g.sum_minus d f) = around (symbol sign.Minus) (λ k. refl) (expr_past d) (expr_past f)
expr_past (g.term_prim d) = expr_past d
expr_past (g.term_star d f) = around (symbol sign.Star) (λ k. refl) (expr_past d) (expr_past f)
expr_past (g.term_slash d f) = around (symbol sign.Slash) (λ k. refl) (expr_past d) (expr_past f)
expr_past (g.term_percent d f) = around (symbol sign.Percent) (λ k. refl) (expr_past d) (expr_past f)
expr_past (g.prim_int {ts} {n} le) = token_past (int n) ts (λ k. refl)
expr_past (g.prim_negative {ts} {n} le) = behind (symbol sign.Minus) (λ k. refl) (token_past (int n) ts (λ k. refl))
expr_past (g.prim_text {ts} {z}) = token_past (text z) ts (λ k. refl)
expr_past (g.prim_true {ts}) = token_past (keyword word.True) ts (λ k. refl)
expr_past (g.prim_false {ts}) = token_past (keyword word.False) ts (λ k. refl)
expr_past (g.prim_param {ts} {w}) = behind (symbol sign.Dollar) (λ k. refl) (token_past (name w) ts (λ k. refl))
expr_past (g.prim_col d) = col_past d
expr_past (g.prim_scope {ts} {w} {n} le) = behind (name w) (λ k. refl) (behind g.dot (λ k. refl) (token_past (int n) ts (λ k. refl)))
expr_past (g.prim_if c a b) = behind (keyword word.If) (λ k. refl) (in_parens (around g.comma (λ k. refl) (expr_past c) (around g.comma (λ k. refl) (expr_past a) (expr_past b))))
expr_past (g.prim_paren d) = in_parens (expr_past d)

pub separated_past : {A : Type 0} (R : Lexemes → A → Lexemes → Type 0) → ((ts us : Lexemes) (x : A) → R ts x us → Past ts us) → {ts us : Lexemes} {xs : List A} → Separated R ts xs us → Past ts us
separated_past R each (g.last d) = each _ _ _ d
separated_past R each (g.more d s) = around g.comma (λ k. refl) (each _ _ _ d) (separated_past R each s)

pub maybe_past : {A : Type 0} (R : Lexemes → A → Lexemes → Type 0) → ((ts us : Lexemes) (x : A) → R ts x us → Past ts us) → {ts us : Lexemes} {xs : List A} → MaybeSeparated R ts xs us → Past ts us
maybe_past R each (g.no_items {ts}) = nothing_past ts
maybe_past R each (g.some_items s) = separated_past R each s

pub item_past : {ts us : Lexemes} {i : Item} → IsItem ts i us → Past ts us
item_past (g.item d f) = both_past (expr_past d) (alias_past f)

pub aggregate_past : {ts us : Lexemes} {a : PAgg} → IsAggregate ts a us → Past ts us
aggregate_past (g.count {ts}) = behind (keyword word.Count) (λ k. refl) (in_parens (nothing_past (g.close_paren ∷ ts)))
aggregate_past (g.sum_of d) = behind (keyword word.Sum) (λ k. refl) (in_parens (col_past d))
aggregate_past (g.min_of d) = behind (keyword word.Min) (λ k. refl) (in_parens (col_past d))
aggregate_past (g.max_of d) = behind (keyword word.Max) (λ k. refl) (in_parens (col_past d))

pub agg_past : {ts us : Lexemes} {a : PAgg × Option Word} → IsAgg ts a us → Past ts us
agg_past (g.aggregate d f) = both_past (aggregate_past d) (alias_past f)

pub key_past : {ts us : Lexemes} {c : PCol × Bool} → IsKey ts c us → Past ts us
key_past (g.rising d) = col_past d
key_past (g.asc d) = before (keyword word.Asc) (λ k. refl) (col_past d)
key_past (g.desc d) = before (keyword word.Desc) (λ k. refl) (col_past d)

pub lower_past : {ts us : Lexemes} {b : PBound} → IsLower ts b us → Past ts us
lower_past (g.any_lower {ts}) = token_past (keyword word.Any) ts (λ k. refl)
lower_past (g.from d) = behind (symbol sign.Ge) (λ k. refl) (expr_past d)
lower_past (g.above d) = behind (symbol sign.Gt) (λ k. refl) (expr_past d)

pub upper_past : {ts us : Lexemes} {b : PBound} → IsUpper ts b us → Past ts us
upper_past (g.any_upper {ts}) = token_past (keyword word.Any) ts (λ k. refl)
upper_past (g.up_to d) = behind (symbol sign.Le) (λ k. refl) (expr_past d)
upper_past (g.below d) = behind (symbol sign.Lt) (λ k. refl) (expr_past d)

-- behind a source: "as" NAME ","
pub scope_past : {ts us : Lexemes} (k : Word) → Past ts (keyword word.As ∷ name k ∷ g.comma ∷ us) → Past ts us
scope_past k p = before g.comma (λ j. refl) (before (name k) (λ j. refl) (before (keyword word.As) (λ j. refl) p))

mutual
  pub rel_past : {ts us : Lexemes} {p : PRel} → IsRel ts p us → Past ts us
  rel_past (g.table {ts} {w}) = token_past (name w) ts (λ k. refl)
  rel_past (g.scalar d) = behind (keyword word.Scalar) (λ k. refl) (in_parens (item_past d))
  rel_past (g.cross d) = behind (keyword word.Cross) (λ k. refl) (in_parens (rels_past d))
  rel_past (g.concat d) = behind (keyword word.Concat) (λ k. refl) (in_parens (rels_past d))
  rel_past (g.select s d) = behind (keyword word.Select) (λ k. refl) (in_parens (both_past (in_brackets (separated_past IsItem (λ ts us x i. item_past i) s)) (behind g.comma (λ k. refl) (rel_past d))))
  rel_past (g.filter a d) = behind (keyword word.Filter) (λ k. refl) (in_parens (around g.comma (λ k. refl) (expr_past a) (rel_past d)))
  rel_past (g.join a d f) = behind (keyword word.Join) (λ k. refl) (in_parens (around g.comma (λ k. refl) (expr_past a) (around g.comma (λ k. refl) (rel_past d) (rel_past f))))
  rel_past (g.depjoin {k = k} d f) = behind (keyword word.Depjoin) (λ j. refl) (in_parens (both_past (scope_past k (rel_past d)) (rel_past f)))
  rel_past (g.list {k = k} d f) = behind (keyword word.List) (λ j. refl) (in_parens (both_past (scope_past k (rel_past d)) (rel_past f)))
  rel_past (g.hash {k = k} d f s) = behind (keyword word.Hash) (λ j. refl) (in_parens (both_past (scope_past k (rel_past d)) (around g.comma (λ j. refl) (rel_past f) (in_brackets (separated_past (IsExpr g.expr) (λ ts us x i. expr_past i) s)))))
  rel_past (g.ordered {k = k} d f lo hi) = behind (keyword word.Ordered) (λ j. refl) (in_parens (both_past (scope_past k (rel_past d)) (around g.comma (λ j. refl) (rel_past f) (around g.comma (λ j. refl) (lower_past lo) (upper_past hi)))))
  rel_past (g.groupby s u d) = behind (keyword word.Groupby) (λ k. refl) (in_parens (both_past (in_brackets (maybe_past IsCol (λ ts us x i. col_past i) s)) (behind g.comma (λ k. refl) (both_past (in_brackets (maybe_past IsAgg (λ ts us x i. agg_past i) u)) (behind g.comma (λ k. refl) (rel_past d))))))
  rel_past (g.orderby s d) = behind (keyword word.Orderby) (λ k. refl) (in_parens (both_past (in_brackets (separated_past IsKey (λ ts us x i. key_past i) s)) (behind g.comma (λ k. refl) (rel_past d))))
  rel_past (g.dedup d) = behind (keyword word.Dedup) (λ k. refl) (in_parens (rel_past d))

  pub rels_past : {ts us : Lexemes} {ps : List PRel} → AreRels ts ps us → Past ts us
  rels_past (g.last_rel d) = rel_past d
  rels_past (g.more_rels d s) = around g.comma (λ k. refl) (rel_past d) (rels_past s)

pub type_past : {ts us : Lexemes} {t : Ty} → IsType ts t us → Past ts us
type_past (g.int_type {ts}) = token_past (keyword word.Int) ts (λ k. refl)
type_past (g.bool_type {ts}) = token_past (keyword word.Bool) ts (λ k. refl)
type_past (g.text_type {ts}) = token_past (keyword word.Text) ts (λ k. refl)

pub column_past : {ts us : Lexemes} {c : Word × Ty} → IsColumn ts c us → Past ts us
column_past (g.column {w = w} d) = behind (name w) (λ k. refl) (type_past d)

pub decl_past : {ts us : Lexemes} {d : Decl} → IsDecl ts d us → Past ts us
decl_past (g.table_decl {w = w} s) = behind (keyword word.Table) (λ k. refl) (behind (name w) (λ k. refl) (before g.semicolon (λ k. refl) (in_parens (separated_past IsColumn (λ ts us x i. column_past i) s))))
decl_past (g.param_decl {w = w} d) = behind (keyword word.Param) (λ k. refl) (behind (name w) (λ k. refl) (before g.semicolon (λ k. refl) (type_past d)))

pub decls_past : {ts us : Lexemes} {ds : List Decl} → AreDecls ts ds us → Past ts us
decls_past (g.no_decls {ts}) = nothing_past ts
decls_past (g.more_decls d s) = both_past (decl_past d) (decls_past s)
