-- What the grammar derives as a relation is read so.
use Rattle.std.proofs.Common.{◌≡◌, ℕ, zero, suc, ◌+◌, ◌<◌, Bool, false, List, ◌∷◌, Option, Some, refl, ap, ◌∙◌, zero-add, arith}
use Rattle.std.specs.Prelude.{nat_le}
use Rattle.std.proofs.lemmas.Bool.{leb-true}
use Rattle.castor_tokens.specs.declared.token.Keyword.{Keyword}
use Rattle.castor_tokens.specs.declared.token.Keyword.TheVariants as word
use Rattle.castor_tokens.specs.declared.token.Symbol.TheVariants as sign
use Rattle.castor_tree.specs.declared.tree.Word.{Word}
use Rattle.castor_tree.specs.declared.tree.PCol.{PCol}
use Rattle.castor_tree.specs.declared.tree.PExpr.{PExpr}
use Rattle.castor_tree.specs.declared.tree.Item.{Item}
use Rattle.castor_tree.specs.declared.tree.PAgg.{PAgg}
use Rattle.castor_tree.specs.declared.tree.PBound.{PBound}
use Rattle.castor_tree.specs.declared.tree.PBound.TheVariants as bound
use Rattle.castor_tree.specs.declared.tree.PRel.{PRel}
use Rattle.castor_tree.specs.declared.tree.PRel.TheVariants as r
use Rattle.castor_parse.specs.Lexemes.{name, keyword, symbol, Lexemes}
use Rattle.castor_parse.specs.Limits.{opened, are_few_open}
use Rattle.castor_parse.specs.Grammar as g
use Rattle.castor_parse.specs.Grammar.{Separated, last, more, MaybeSeparated, IsCol, IsAlias, IsExpr, IsItem, IsAggregate, IsAgg, IsKey, IsLower, IsUpper, IsRel, AreRels}
use Rattle.castor_tree.specs.Sizes.{expr_nodes, item_nodes, bound_nodes, all_nodes, nodes}
use Rattle.castor_parse.specs.Parser.{Outcome, Parser, at, spend, first_kind, is_symbol, empty_rel, followed, expect_symbol, expect_keyword, read_name, read_item, read_lower, read_upper, aggregated, read_count, read_aggregate, read_agg, falls_by, read_key, read_col, read_table_name, read_source, read_scalar, read_rels, read_select, read_filter, read_join, read_binder, read_hash, read_ordered, read_groupby, read_orderby, read_dedup, read_rel, rel_at, expr_at, separated, bracketed, maybe_bracketed}
use Rattle.castor_parse.proofs.NodeLaws as size
use Rattle.castor_parse.proofs.Readings.{spend_none, spends, had_some}
use Rattle.castor_parse.proofs.SoundLists.{no_nodes, all_nodes-none}
use Rattle.castor_parse.proofs.SoundRel.{no_sum}
use Rattle.castor_parse.proofs.Past.{Past, token_past, and_first, and_second, in_brackets, expr_past, separated_past, maybe_past, col_past, item_past, agg_past, key_past, lower_past, scope_past, rel_past}
use Rattle.castor_parse.proofs.CompleteExpr.{Done, goes, node_done, leaf_done, Room, room_past, room_in, strength, HasNoAlias, past_token, col_done, alias_done, expr_done}
use Rattle.castor_parse.proofs.CompleteLists.{separated_done, bracketed_done, maybe_done}

-- ---- parts

-- what may follow an item: no operator and no `as`
abbrev EndsItem : Lexemes → Type 0
EndsItem us = (strength us < 1) × HasNoAlias us

abbrev pub NoLimit : Lexemes → Type 0
NoLimit us = Unit {0}

before_alias : {us vs : Lexemes} {called : Option Word} → IsAlias us called vs → EndsItem vs → strength us < 1
before_alias g.no_alias ends = ends.0
before_alias g.alias ends = omega arith

item_done : {ts us : Lexemes} {i : Item} → IsItem ts i us → (n k : ℕ) → Room n k ts → EndsItem us → (m : ℕ) → Done item_nodes (read_item (expr_at n) (at ts m)) m i us
unfolding read_item
item_done (g.item {called = called} d f) n k room ends m =
    let x = expr_done d n k room (before_alias f ends) m in
    record {
      made = record { expr = x.made; name = called };
      left = x.left;
      is = goes x _ _ (rw (alias_done f ends.1 x.left) refl);
      spent = x.spent;
      same = λ le. let p = x.same le in λ i. record { expr = p i; name = called };
    }

lower_done : {ts us : Lexemes} {b : PBound} → IsLower ts b us → (n k : ℕ) → Room n k ts → strength us < 1 → (m : ℕ) → Done bound_nodes (read_lower (expr_at n) (at ts m)) m b us
unfolding read_lower
lower_done (g.any_lower {ts}) n k room s m = record { made = bound.Any; left = m; is = refl; spent = spend_none m; same = λ le. refl }
lower_done (g.from {ts} {us} d) n k room s m =
    let x = expr_done d n k (room_past (token_past (symbol sign.Ge) ts (λ j. refl)) room) s m in
    record { made = bound.Incl x.made; left = x.left; is = goes x _ _ refl; spent = x.spent; same = λ le. ap bound.Incl (x.same le) }
lower_done (g.above {ts} {us} d) n k room s m =
    let x = expr_done d n k (room_past (token_past (symbol sign.Gt) ts (λ j. refl)) room) s m in
    record { made = bound.Excl x.made; left = x.left; is = goes x _ _ refl; spent = x.spent; same = λ le. ap bound.Excl (x.same le) }

upper_done : {ts us : Lexemes} {b : PBound} → IsUpper ts b us → (n k : ℕ) → Room n k ts → strength us < 1 → (m : ℕ) → Done bound_nodes (read_upper (expr_at n) (at ts m)) m b us
unfolding read_upper
upper_done (g.any_upper {ts}) n k room s m = record { made = bound.Any; left = m; is = refl; spent = spend_none m; same = λ le. refl }
upper_done (g.up_to {ts} {us} d) n k room s m =
    let x = expr_done d n k (room_past (token_past (symbol sign.Le) ts (λ j. refl)) room) s m in
    record { made = bound.Incl x.made; left = x.left; is = goes x _ _ refl; spent = x.spent; same = λ le. ap bound.Incl (x.same le) }
upper_done (g.below {ts} {us} d) n k room s m =
    let x = expr_done d n k (room_past (token_past (symbol sign.Lt) ts (λ j. refl)) room) s m in
    record { made = bound.Excl x.made; left = x.left; is = goes x _ _ refl; spent = x.spent; same = λ le. ap bound.Excl (x.same le) }

aggregate_done : {ts us : Lexemes} {a : PAgg} → IsAggregate ts a us → (m : ℕ) → read_aggregate (at ts m) ≡ Some (a, at us m)
unfolding read_aggregate aggregated read_count expect_symbol
aggregate_done g.count m = refl
aggregate_done (g.sum_of d) m = rw (col_done d (omega arith) m) refl
aggregate_done (g.min_of d) m = rw (col_done d (omega arith) m) refl
aggregate_done (g.max_of d) m = rw (col_done d (omega arith) m) refl

agg_done : {ts us : Lexemes} {a : PAgg × Option Word} → IsAgg ts a us → HasNoAlias us → (m : ℕ) → read_agg (at ts m) ≡ Some (a, at us m)
unfolding read_agg
agg_done (g.aggregate d f) ends m = rw (aggregate_done d m, alias_done f ends m) refl

-- neither `asc` nor `desc` comes next
abbrev EndsKey : Lexemes → Type 0
EndsKey us = (strength us < 7) × ((m : ℕ) → falls_by (first_kind us) (at us m) ≡ Some (false, at us m))

key_done : {ts us : Lexemes} {c : PCol × Bool} → IsKey ts c us → EndsKey us → (m : ℕ) → read_key (at ts m) ≡ Some (c, at us m)
unfolding read_key
key_done (g.rising d) ends m = rw (col_done d ends.0 m, ends.1 m) refl
key_done (g.asc d) ends m = rw (col_done d (omega arith) m) refl
key_done (g.desc d) ends m = rw (col_done d (omega arith) m) refl

-- a tree without nodes
pub plain_done : {A : Type 0} (o : Outcome A) (m : ℕ) (x : A) (us : Lexemes) → o ≡ Some (x, at us m) → Done no_nodes o m x us
plain_done o m x us is = record { made = x; left = m; is = is; spent = spend_none m; same = λ le. refl }

-- ---- lists

cols_done : {ts us : Lexemes} {cs : List PCol} → MaybeSeparated IsCol ts cs (g.close_bracket ∷ us) → (m : ℕ) → Done (all_nodes no_nodes) (maybe_bracketed read_col (at (g.open_bracket ∷ ts) m)) m cs us
cols_done s m =
    maybe_done IsCol no_nodes read_col NoLimit (λ us. strength us < 7) (λ ts us x d. col_past d) (λ ts us p f. tt) (λ us. omega arith) (λ ts us x d f s2 j. plain_done _ j x us (col_done d s2 j)) s cols_begin tt (omega arith) m
  where
    col_begins : {ts us : Lexemes} {c : PCol} → IsCol ts c us → is_symbol sign.CloseBracket (first_kind ts) ≡ false
    col_begins g.named = refl
    col_begins g.dotted = refl
    col_begins (g.numbered le) = refl

    cols_begin : (ts us : Lexemes) (xs : List PCol) → Separated IsCol ts xs us → is_symbol sign.CloseBracket (first_kind ts) ≡ false
    cols_begin ts us xs (last d) = col_begins d
    cols_begin ts us xs (more d t) = col_begins d

aggs_done : {ts us : Lexemes} {xs' : List (PAgg × Option Word)} → MaybeSeparated IsAgg ts xs' (g.close_bracket ∷ us) → (m : ℕ) → Done (all_nodes no_nodes) (maybe_bracketed read_agg (at (g.open_bracket ∷ ts) m)) m xs' us
aggs_done s m =
    maybe_done IsAgg no_nodes read_agg NoLimit HasNoAlias (λ ts us x d. agg_past d) (λ ts us p f. tt) (λ us. refl) (λ ts us x d f s2 j. plain_done _ j x us (agg_done d s2 j)) s aggs_begin tt refl m
  where
    aggregate_begins : {ts us : Lexemes} {a : PAgg} → IsAggregate ts a us → is_symbol sign.CloseBracket (first_kind ts) ≡ false
    aggregate_begins g.count = refl
    aggregate_begins (g.sum_of d) = refl
    aggregate_begins (g.min_of d) = refl
    aggregate_begins (g.max_of d) = refl

    agg_begins : {ts us : Lexemes} {a : PAgg × Option Word} → IsAgg ts a us → is_symbol sign.CloseBracket (first_kind ts) ≡ false
    agg_begins (g.aggregate d f) = aggregate_begins d

    aggs_begin : (ts us : Lexemes) (xs : List (PAgg × Option Word)) → Separated IsAgg ts xs us → is_symbol sign.CloseBracket (first_kind ts) ≡ false
    aggs_begin ts us xs (last d) = agg_begins d
    aggs_begin ts us xs (more d t) = agg_begins d

keys_done : {ts us : Lexemes} {ks : List (PCol × Bool)} → Separated IsKey ts ks (g.close_bracket ∷ us) → (m : ℕ) → Done (all_nodes no_nodes) (bracketed read_key (at (g.open_bracket ∷ ts) m)) m ks us
keys_done s m =
    bracketed_done IsKey no_nodes read_key NoLimit EndsKey (λ ts us x d. key_past d) (λ ts us p f. tt) (λ us. (omega arith, λ j. refl)) (λ ts us x d f s2 j. plain_done _ j x us (key_done d s2 j)) s tt (omega arith, λ j. refl) m

items_done : {ts us : Lexemes} {is : List Item} → Separated IsItem ts is (g.close_bracket ∷ us) → (n k : ℕ) → Room n k ts → (m : ℕ) → Done (all_nodes item_nodes) (bracketed (read_item (expr_at n)) (at (g.open_bracket ∷ ts) m)) m is us
items_done s n k room m =
    bracketed_done IsItem item_nodes (read_item (expr_at n)) (Room n k) EndsItem (λ ts us x d. item_past d) (λ ts us p f. room_past p f) (λ us. (omega arith, refl)) (λ ts us x d f s2 j. item_done d n k f s2 j) s room (omega arith, refl) m

exprs_done : {ts us : Lexemes} {xs' : List PExpr} → Separated (IsExpr g.expr) ts xs' (g.close_bracket ∷ us) → (n k : ℕ) → Room n k ts → (m : ℕ) → Done (all_nodes expr_nodes) (bracketed (expr_at n) (at (g.open_bracket ∷ ts) m)) m xs' us
exprs_done s n k room m =
    bracketed_done (IsExpr g.expr) expr_nodes (expr_at n) (Room n k) (λ us. strength us < 1) (λ ts us x d. expr_past d) (λ ts us p f. room_past p f) (λ us. omega arith) (λ ts us x d f s2 j. expr_done d n k f s2 j) s room (omega arith) m

-- ---- relations

room_bracket : {n k : ℕ} {ts : Lexemes} → Room n k (g.open_bracket ∷ ts) → Room n (k + 1) ts
room_bracket {n} {k} {ts} room = record {
  deep = omega (arith, room.deep);
  within = leb-true (k + 1) 256 (and_first (nat_le (k + 1) 256) (are_few_open (k + 1) ts) room.few);
  few = and_second (nat_le (k + 1) 256) (are_few_open (k + 1) ts) room.few;
}

-- each operator, over what reads relations and expressions inside
module _ (rel : Parser PRel) (expr : Parser PExpr) where
  abbrev DoneBehind : Keyword → Lexemes → ℕ → PRel → Lexemes → Type 0
  DoneBehind k ts m p us = Done nodes (read_rel rel expr (at (keyword k ∷ g.open_paren ∷ ts) m)) m p us

  table_done : (w : Word) (ts : Lexemes) (m : ℕ) → Done nodes (read_rel rel expr (at (name w ∷ ts) m)) m (r.Table w) ts
  unfolding read_rel read_table_name read_name
  table_done w ts m = leaf_done nodes _ m empty_rel (r.Table w) ts refl (size.nodes-Table w)

  scalar_done : (ts us : Lexemes) (i : Item) (m : ℕ) → Done item_nodes (read_item expr (at ts m)) m i (g.close_paren ∷ us) → DoneBehind word.Scalar ts m (r.Scalar i) us
  unfolding read_rel read_scalar followed expect_symbol
  scalar_done ts us i m x =
      node_done nodes _ m (item_nodes i) x.left empty_rel (r.Scalar x.made) (r.Scalar i) us (rw x.is refl) x.spent (size.nodes-Scalar i) (λ le. ap r.Scalar (x.same le))

  cross_done : (ts us : Lexemes) (ps : List PRel) (m : ℕ) → Done (all_nodes nodes) (separated rel (at ts m)) m ps (g.close_paren ∷ us) → DoneBehind word.Cross ts m (r.Cross ps) us
  unfolding read_rel read_rels followed expect_symbol
  cross_done ts us ps m x =
      node_done nodes _ m (all_nodes nodes ps) x.left empty_rel (r.Cross x.made) (r.Cross ps) us (rw x.is refl) x.spent (size.nodes-Cross ps) (λ le. ap r.Cross (x.same le))

  concat_done : (ts us : Lexemes) (ps : List PRel) (m : ℕ) → Done (all_nodes nodes) (separated rel (at ts m)) m ps (g.close_paren ∷ us) → DoneBehind word.Concat ts m (r.Concat ps) us
  unfolding read_rel read_rels followed expect_symbol
  concat_done ts us ps m x =
      node_done nodes _ m (all_nodes nodes ps) x.left empty_rel (r.Concat x.made) (r.Concat ps) us (rw x.is refl) x.spent (size.nodes-Concat ps) (λ le. ap r.Concat (x.same le))

  select_done : (ts us vs : Lexemes) (is : List Item) (p : PRel) (m : ℕ) → (x : Done (all_nodes item_nodes) (bracketed (read_item expr) (at (g.open_bracket ∷ ts) m)) m is (g.comma ∷ us)) → Done nodes (rel (at us x.left)) x.left p (g.close_paren ∷ vs) → DoneBehind word.Select (g.open_bracket ∷ ts) m (r.Select is p) vs
  unfolding read_rel read_select followed expect_symbol
  select_done ts us vs is p m x y =
      node_done nodes _ m (all_nodes item_nodes is + nodes p) y.left empty_rel (r.Select x.made y.made) (r.Select is p) vs (rw x.is (rw y.is refl))
      (spends m x.left y.left (all_nodes item_nodes is) (nodes p) x.spent y.spent) (size.nodes-Select is p)
      (λ le. let a = x.same (had_some x.left y.left (nodes p) y.spent le) in let b = y.same le in λ i. r.Select (a i) (b i))

  filter_done : (ts us vs : Lexemes) (a : PExpr) (p : PRel) (m : ℕ) → (x : Done expr_nodes (expr (at ts m)) m a (g.comma ∷ us)) → Done nodes (rel (at us x.left)) x.left p (g.close_paren ∷ vs) → DoneBehind word.Filter ts m (r.Filter a p) vs
  unfolding read_rel read_filter followed expect_symbol
  filter_done ts us vs a p m x y =
      node_done nodes _ m (expr_nodes a + nodes p) y.left empty_rel (r.Filter x.made y.made) (r.Filter a p) vs (rw x.is (rw y.is refl))
      (spends m x.left y.left (expr_nodes a) (nodes p) x.spent y.spent) (size.nodes-Filter a p)
      (λ le. let c = x.same (had_some x.left y.left (nodes p) y.spent le) in let b = y.same le in λ i. r.Filter (c i) (b i))

  join_done : (ts us vs ws : Lexemes) (a : PExpr) (p q : PRel) (m : ℕ) → (x : Done expr_nodes (expr (at ts m)) m a (g.comma ∷ us)) → (y : Done nodes (rel (at us x.left)) x.left p (g.comma ∷ vs)) → Done nodes (rel (at vs y.left)) y.left q (g.close_paren ∷ ws) → DoneBehind word.Join ts m (r.Join a p q) ws
  unfolding read_rel read_join followed expect_symbol
  join_done ts us vs ws a p q m x y z =
      node_done nodes _ m (expr_nodes a + (nodes p + nodes q)) z.left empty_rel (r.Join x.made y.made z.made) (r.Join a p q) ws (rw x.is (rw y.is (rw z.is refl)))
      (spends m x.left z.left (expr_nodes a) (nodes p + nodes q) x.spent (spends x.left y.left z.left (nodes p) (nodes q) y.spent z.spent)) (size.nodes-Join a p q)
      (λ le.
      let l2 = had_some y.left z.left (nodes q) z.spent le in
      let b = x.same (had_some x.left y.left (nodes p) y.spent l2) in
      let c = y.same l2 in
      let d = z.same le in
      λ i. r.Join (b i) (c i) (d i))

  depjoin_done : (ts us vs : Lexemes) (k : Word) (p q : PRel) (m : ℕ) → (x : Done nodes (rel (at ts m)) m p (keyword word.As ∷ name k ∷ g.comma ∷ us)) → Done nodes (rel (at us x.left)) x.left q (g.close_paren ∷ vs) → DoneBehind word.Depjoin ts m (r.DepJoin k p q) vs
  unfolding read_rel read_binder read_source read_name followed expect_keyword expect_symbol
  depjoin_done ts us vs k p q m x y =
      node_done nodes _ m (nodes p + nodes q) y.left empty_rel (r.DepJoin k x.made y.made) (r.DepJoin k p q) vs
      (rw x.is (rw y.is refl))
      (spends m x.left y.left (nodes p) (nodes q) x.spent y.spent) (size.nodes-DepJoin k p q)
      (λ le. let a = x.same (had_some x.left y.left (nodes q) y.spent le) in let b = y.same le in λ i. r.DepJoin k (a i) (b i))

  list_done : (ts us vs : Lexemes) (k : Word) (p q : PRel) (m : ℕ) → (x : Done nodes (rel (at ts m)) m p (keyword word.As ∷ name k ∷ g.comma ∷ us)) → Done nodes (rel (at us x.left)) x.left q (g.close_paren ∷ vs) → DoneBehind word.List ts m (r.List k p q) vs
  unfolding read_rel read_binder read_source read_name followed expect_keyword expect_symbol
  list_done ts us vs k p q m x y =
      node_done nodes _ m (nodes p + nodes q) y.left empty_rel (r.List k x.made y.made) (r.List k p q) vs
      (rw x.is (rw y.is refl))
      (spends m x.left y.left (nodes p) (nodes q) x.spent y.spent) (size.nodes-List k p q)
      (λ le. let a = x.same (had_some x.left y.left (nodes q) y.spent le) in let b = y.same le in λ i. r.List k (a i) (b i))

  hash_done : (ts us vs ws : Lexemes) (k : Word) (p q : PRel) (keys : List PExpr) (m : ℕ) → (x : Done nodes (rel (at ts m)) m p (keyword word.As ∷ name k ∷ g.comma ∷ us)) → (y : Done nodes (rel (at us x.left)) x.left q (g.comma ∷ g.open_bracket ∷ vs)) → Done (all_nodes expr_nodes) (bracketed expr (at (g.open_bracket ∷ vs) y.left)) y.left keys (g.close_paren ∷ ws) → DoneBehind word.Hash ts m (r.Hash k p q keys) ws
  unfolding read_rel read_hash read_source read_name followed expect_keyword expect_symbol
  hash_done ts us vs ws k p q keys m x y z =
      node_done nodes _ m (nodes p + (nodes q + all_nodes expr_nodes keys)) z.left empty_rel (r.Hash k x.made y.made z.made) (r.Hash k p q keys) ws
      (rw x.is (rw y.is (rw z.is refl)))
      (spends m x.left z.left (nodes p) (nodes q + all_nodes expr_nodes keys) x.spent (spends x.left y.left z.left (nodes q) (all_nodes expr_nodes keys) y.spent z.spent)) (size.nodes-Hash k p q keys)
      (λ le.
      let l2 = had_some y.left z.left (all_nodes expr_nodes keys) z.spent le in
      let b = x.same (had_some x.left y.left (nodes q) y.spent l2) in
      let c = y.same l2 in
      let d = z.same le in
      λ i. r.Hash k (b i) (c i) (d i))

  ordered_done : (ts us vs ws xs : Lexemes) (k : Word) (p q : PRel) (lo hi : PBound) (m : ℕ) → (x : Done nodes (rel (at ts m)) m p (keyword word.As ∷ name k ∷ g.comma ∷ us)) → (y : Done nodes (rel (at us x.left)) x.left q (g.comma ∷ vs)) → (z : Done bound_nodes (read_lower expr (at vs y.left)) y.left lo (g.comma ∷ ws)) → Done bound_nodes (read_upper expr (at ws z.left)) z.left hi (g.close_paren ∷ xs) → DoneBehind word.Ordered ts m (r.Ord k p q lo hi) xs
  unfolding read_rel read_ordered read_source read_name followed expect_keyword expect_symbol
  ordered_done ts us vs ws xs k p q lo hi m x y z w =
      node_done nodes _ m (nodes p + (nodes q + (bound_nodes lo + bound_nodes hi))) w.left empty_rel (r.Ord k x.made y.made z.made w.made) (r.Ord k p q lo hi) xs
      (rw x.is (rw y.is (rw z.is (rw w.is refl))))
      (spends m x.left w.left (nodes p) (nodes q + (bound_nodes lo + bound_nodes hi)) x.spent
      (spends x.left y.left w.left (nodes q) (bound_nodes lo + bound_nodes hi) y.spent (spends y.left z.left w.left (bound_nodes lo) (bound_nodes hi) z.spent w.spent)))
      (size.nodes-Ord k p q lo hi)
      (λ le.
      let l3 = had_some z.left w.left (bound_nodes hi) w.spent le in
      let l2 = had_some y.left z.left (bound_nodes lo) z.spent l3 in
      let b = x.same (had_some x.left y.left (nodes q) y.spent l2) in
      let c = y.same l2 in
      let d = z.same l3 in
      let f = w.same le in
      λ i. r.Ord k (b i) (c i) (d i) (f i))

  groupby_done : (ts us vs ws : Lexemes) (keys : List PCol) (aggs : List (PAgg × Option Word)) (p : PRel) (m : ℕ) → (x : Done (all_nodes no_nodes) (maybe_bracketed read_col (at (g.open_bracket ∷ ts) m)) m keys (g.comma ∷ g.open_bracket ∷ us)) → (y : Done (all_nodes no_nodes) (maybe_bracketed read_agg (at (g.open_bracket ∷ us) x.left)) x.left aggs (g.comma ∷ vs)) → Done nodes (rel (at vs y.left)) y.left p (g.close_paren ∷ ws) → DoneBehind word.Groupby (g.open_bracket ∷ ts) m (r.Group keys aggs p) ws
  unfolding read_rel read_groupby followed expect_symbol
  groupby_done ts us vs ws keys aggs p m x y z =
      let none : y.left ≡ spend m 0 = spends m x.left y.left (all_nodes no_nodes keys) (all_nodes no_nodes aggs) x.spent y.spent ∙ ap (spend m) (no_sum (all_nodes no_nodes keys) (all_nodes no_nodes aggs) (all_nodes-none keys) (all_nodes-none aggs)) in
      node_done nodes _ m (nodes p) z.left empty_rel (r.Group x.made y.made z.made) (r.Group keys aggs p) ws (rw x.is (rw y.is (rw z.is refl)))
      (spends m y.left z.left 0 (nodes p) none z.spent ∙ ap (spend m) (zero-add (nodes p))) (size.nodes-Group keys aggs p)
      (λ le.
      let l2 = had_some y.left z.left (nodes p) z.spent le in
      let b = x.same (had_some x.left y.left (all_nodes no_nodes aggs) y.spent l2) in
      let c = y.same l2 in
      let d = z.same le in
      λ i. r.Group (b i) (c i) (d i))

  orderby_done : (ts us vs : Lexemes) (keys : List (PCol × Bool)) (p : PRel) (m : ℕ) → (x : Done (all_nodes no_nodes) (bracketed read_key (at (g.open_bracket ∷ ts) m)) m keys (g.comma ∷ us)) → Done nodes (rel (at us x.left)) x.left p (g.close_paren ∷ vs) → DoneBehind word.Orderby (g.open_bracket ∷ ts) m (r.Order keys p) vs
  unfolding read_rel read_orderby followed expect_symbol
  orderby_done ts us vs keys p m x y =
      node_done nodes _ m (nodes p) y.left empty_rel (r.Order x.made y.made) (r.Order keys p) vs (rw x.is (rw y.is refl))
      (spends m x.left y.left 0 (nodes p) (x.spent ∙ ap (spend m) (all_nodes-none keys)) y.spent ∙ ap (spend m) (zero-add (nodes p))) (size.nodes-Order keys p)
      (λ le. let a = x.same (had_some x.left y.left (nodes p) y.spent le) in let b = y.same le in λ i. r.Order (a i) (b i))

  dedup_done : (ts us : Lexemes) (p : PRel) (m : ℕ) → Done nodes (rel (at ts m)) m p (g.close_paren ∷ us) → DoneBehind word.Dedup ts m (r.Dedup p) us
  unfolding read_rel read_dedup followed expect_symbol
  dedup_done ts us p m x = node_done nodes _ m (nodes p) x.left empty_rel (r.Dedup x.made) (r.Dedup p) us (rw x.is refl) x.spent (size.nodes-Dedup p) (λ le. ap r.Dedup (x.same le))

-- a relation in the reader with n levels of parentheses inside
abbrev Reaches : Lexemes → PRel → Lexemes → Type 0
Reaches ts p us = (n k : ℕ) → Room (suc n) k ts → (m : ℕ) → Done nodes (read_rel (rel_at n) (expr_at n) (at ts m)) m p us

inner_done : {ts us : Lexemes} {p : PRel} → Reaches ts p us → (n k : ℕ) → Room n k ts → (m : ℕ) → Done nodes (rel_at n (at ts m)) m p us
unfolding rel_at
inner_done h zero k room m = absurd (omega (arith, room.deep, room.within))
inner_done h (suc n) k room m = h n k room m

-- behind the word and the parenthesis of an operator
inside_of : {n k : ℕ} {ts : Lexemes} (w : Keyword) → ((j : ℕ) → opened j (keyword w) ≡ j) → Room (suc n) k (keyword w ∷ g.open_paren ∷ ts) → Room n (k + 1) ts
inside_of {n} {k} {ts} w plain room = room_in (room_past (token_past (keyword w) (g.open_paren ∷ ts) plain) room)

-- each relation of a list is reached
abbrev ReachedRel : Lexemes → PRel → Lexemes → Type 0
ReachedRel ts p us = Past ts us × Reaches ts p us

rels_done : {ts us : Lexemes} {ps : List PRel} → Separated ReachedRel ts ps (g.close_paren ∷ us) → (n k : ℕ) → Room n k ts → (m : ℕ) → Done (all_nodes nodes) (separated (rel_at n) (at ts m)) m ps (g.close_paren ∷ us)
rels_done s n k room m =
    separated_done ReachedRel nodes (rel_at n) (Room n k) NoLimit (λ ts us x d. d.0) (λ ts us p f. room_past p f) (λ us. tt) (λ ts us x d f s2 j. inner_done d.1 n k f j) s room tt refl m

mutual
  reach_rel : {ts us : Lexemes} {p : PRel} → IsRel ts p us → Reaches ts p us
  reach_rel (g.table {ts} {w}) n k room m = table_done (rel_at n) (expr_at n) w ts m
  reach_rel (g.scalar {ts} {us} {i} d) n k room m = scalar_done (rel_at n) (expr_at n) ts us i m (item_done d n (k + 1) (inside_of word.Scalar (λ j. refl) room) (omega arith, refl) m)
  reach_rel (g.cross {ts} {us} {ps} s) n k room m = cross_done (rel_at n) (expr_at n) ts us ps m (rels_done (reach_rels s) n (k + 1) (inside_of word.Cross (λ j. refl) room) m)
  reach_rel (g.concat {ts} {us} {ps} s) n k room m = concat_done (rel_at n) (expr_at n) ts us ps m (rels_done (reach_rels s) n (k + 1) (inside_of word.Concat (λ j. refl) room) m)
  reach_rel (g.select {ts} {us} {vs} {is} {p} s d) n k room m =
      let inside = inside_of word.Select (λ j. refl) room in
      let x = items_done s n (k + 1 + 1) (room_bracket inside) m in
      let after = room_past (past_token g.comma (λ j. refl) (in_brackets (separated_past IsItem (λ ts us i f. item_past f) s))) inside in
      select_done (rel_at n) (expr_at n) ts us vs is p m x (inner_done (reach_rel d) n (k + 1) after x.left)
  reach_rel (g.filter {ts} {us} {vs} {a} {p} d f) n k room m =
      let inside = inside_of word.Filter (λ j. refl) room in
      let x = expr_done d n (k + 1) inside (omega arith) m in
      filter_done (rel_at n) (expr_at n) ts us vs a p m x (inner_done (reach_rel f) n (k + 1) (room_past (past_token g.comma (λ j. refl) (expr_past d)) inside) x.left)
  reach_rel (g.join {ts} {us} {vs} {ws} {a} {p} {q} d f h) n k room m =
      let inside = inside_of word.Join (λ j. refl) room in
      let x = expr_done d n (k + 1) inside (omega arith) m in
      let r2 = room_past (past_token g.comma (λ j. refl) (expr_past d)) inside in
      let y = inner_done (reach_rel f) n (k + 1) r2 x.left in
      let r3 = room_past (past_token g.comma (λ j. refl) (rel_past f)) r2 in
      join_done (rel_at n) (expr_at n) ts us vs ws a p q m x y (inner_done (reach_rel h) n (k + 1) r3 y.left)
  reach_rel (g.depjoin {ts} {us} {vs} {k = w} {p} {q} d f) n k room m =
      let inside = inside_of word.Depjoin (λ j. refl) room in
      let x = inner_done (reach_rel d) n (k + 1) inside m in
      depjoin_done (rel_at n) (expr_at n) ts us vs w p q m x (inner_done (reach_rel f) n (k + 1) (room_past (scope_past w (rel_past d)) inside) x.left)
  reach_rel (g.list {ts} {us} {vs} {k = w} {p} {q} d f) n k room m =
      let inside = inside_of word.List (λ j. refl) room in
      let x = inner_done (reach_rel d) n (k + 1) inside m in
      list_done (rel_at n) (expr_at n) ts us vs w p q m x (inner_done (reach_rel f) n (k + 1) (room_past (scope_past w (rel_past d)) inside) x.left)
  reach_rel (g.hash {ts} {us} {vs} {ws} {k = w} {p} {q} {keys} d f s) n k room m =
      let inside = inside_of word.Hash (λ j. refl) room in
      let x = inner_done (reach_rel d) n (k + 1) inside m in
      let r2 = room_past (scope_past w (rel_past d)) inside in
      let y = inner_done (reach_rel f) n (k + 1) r2 x.left in
      let r3 = room_past (past_token g.comma (λ j. refl) (rel_past f)) r2 in
      hash_done (rel_at n) (expr_at n) ts us vs ws w p q keys m x y (exprs_done s n (k + 1 + 1) (room_bracket r3) y.left)
  reach_rel (g.ordered {ts} {us} {vs} {ws} {xs} {k = w} {p} {q} {lo} {hi} d f a b) n k room m =
      let inside = inside_of word.Ordered (λ j. refl) room in
      let x = inner_done (reach_rel d) n (k + 1) inside m in
      let r2 = room_past (scope_past w (rel_past d)) inside in
      let y = inner_done (reach_rel f) n (k + 1) r2 x.left in
      let r3 = room_past (past_token g.comma (λ j. refl) (rel_past f)) r2 in
      let z = lower_done a n (k + 1) r3 (omega arith) y.left in
      let r4 = room_past (past_token g.comma (λ j. refl) (lower_past a)) r3 in
      ordered_done (rel_at n) (expr_at n) ts us vs ws xs w p q lo hi m x y z (upper_done b n (k + 1) r4 (omega arith) z.left)
  reach_rel (g.groupby {ts} {us} {vs} {ws} {ks} {aggs} {p} s t d) n k room m =
      let inside = inside_of word.Groupby (λ j. refl) room in
      let x = cols_done s m in
      let y = aggs_done t x.left in
      let r2 = room_past (past_token g.comma (λ j. refl) (in_brackets (maybe_past IsCol (λ ts us i f. col_past f) s))) inside in
      let r3 = room_past (past_token g.comma (λ j. refl) (in_brackets (maybe_past IsAgg (λ ts us i f. agg_past f) t))) r2 in
      groupby_done (rel_at n) (expr_at n) ts us vs ws ks aggs p m x y (inner_done (reach_rel d) n (k + 1) r3 y.left)
  reach_rel (g.orderby {ts} {us} {vs} {ks} {p} s d) n k room m =
      let inside = inside_of word.Orderby (λ j. refl) room in
      let x = keys_done s m in
      let r2 = room_past (past_token g.comma (λ j. refl) (in_brackets (separated_past IsKey (λ ts us i f. key_past f) s))) inside in
      orderby_done (rel_at n) (expr_at n) ts us vs ks p m x (inner_done (reach_rel d) n (k + 1) r2 x.left)
  reach_rel (g.dedup {ts} {us} {p} d) n k room m = dedup_done (rel_at n) (expr_at n) ts us p m (inner_done (reach_rel d) n (k + 1) (inside_of word.Dedup (λ j. refl) room) m)

  reach_rels : {ts us : Lexemes} {ps : List PRel} → AreRels ts ps us → Separated ReachedRel ts ps us
  reach_rels (g.last_rel d) = last (rel_past d, reach_rel d)
  reach_rels (g.more_rels d s) = more (rel_past d, reach_rel d) (reach_rels s)

-- a relation is read, whatever follows it
pub rel_done : {ts us : Lexemes} {p : PRel} → IsRel ts p us → (n k : ℕ) → Room n k ts → (m : ℕ) → Done nodes (rel_at n (at ts m)) m p us
rel_done d n k room m = inner_done (reach_rel d) n k room m
