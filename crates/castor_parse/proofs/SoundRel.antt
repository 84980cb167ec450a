-- What the rules of relations read stands in the grammar.
use Rattle.std.proofs.Common.{◌≡◌, ℕ, zero, suc, ◌+◌, ◌<◌, Bool, true, false, List, [], ◌∷◌, Some, refl, sym, ap, ◌∙◌, subst, zero-add, arith}
use Rattle.castor_tokens.specs.declared.token.Keyword.{Keyword}
use Rattle.castor_tokens.specs.declared.token.Keyword.TheVariants as word
use Rattle.castor_tokens.specs.declared.token.Symbol.TheVariants as sign
use Rattle.castor_tree.specs.declared.tree.Word.{Word}
use Rattle.castor_tree.specs.declared.tree.PCol.{PCol}
use Rattle.castor_tree.specs.declared.tree.PExpr.{PExpr}
use Rattle.castor_tree.specs.declared.tree.PAgg.{PAgg}
use Rattle.castor_tree.specs.declared.tree.PAgg.TheVariants as agg
use Rattle.castor_tree.specs.declared.tree.PBound.TheVariants as bound
use Rattle.castor_tree.specs.declared.tree.PRel.{PRel}
use Rattle.castor_tree.specs.declared.tree.PRel.TheVariants as r
use Rattle.castor_parse.specs.Lexemes.{name, int, text, keyword, symbol, Lexemes}
use Rattle.castor_parse.specs.Grammar as g
use Rattle.castor_parse.specs.Grammar.{Separated, last, more, MaybeSeparated, IsCol, IsAlias, IsExpr, IsItem, IsAggregate, IsAgg, IsKey, IsLower, IsUpper, IsRel, AreRels}
use Rattle.castor_tree.specs.Sizes.{expr_nodes, item_nodes, bound_nodes, all_nodes, nodes}
use Rattle.castor_parse.specs.Parser.{State, Parser, and_then, at, spend, first_kind, empty_rel, rel_node, read_item, read_lower, read_upper, aggregated, read_count, read_aggregate, read_agg, falls_by, read_key, read_col, read_table_name, read_source, read_scalar, read_rels, read_select, read_filter, read_join, read_binder, read_hash, read_ordered, read_groupby, read_orderby, read_dedup, rel_by, begins_rel, behind_word, read_rel, rel_at, expr_at, separated}
use Rattle.castor_parse.proofs.Outcomes.{Gives, gives_none, gives_some, weaker, step}
use Rattle.castor_parse.proofs.NodeLaws as size
use Rattle.castor_parse.proofs.Readings.{Plain, Read, SoundPlain, Sound, expects_symbol, expects_keyword, reads_name, node_read, leaf_read, spend_none, spends, had_some}
use Rattle.castor_parse.proofs.SoundExpr.{SoundExpr, reads_col, reads_alias, expr_reads}
use Rattle.castor_parse.proofs.SoundLists.{no_nodes, plain, all_nodes-none, followed_reads, step_then, separated_reads, bracketed_reads, maybe_bracketed_reads}

-- ---- aggregates and keys

abbrev AggregateBehind : Keyword → (PCol → PAgg) → Type 0
AggregateBehind k made = (ts us : Lexemes) (c : PCol) → IsCol ts c (g.close_paren ∷ us) → IsAggregate (keyword k ∷ g.open_paren ∷ ts) (made c) us

aggregated_reads : (k : Keyword) (made : PCol → PAgg) → AggregateBehind k made → (ts : Lexemes) (n : ℕ) → Gives (and_then (aggregated (at (keyword k ∷ ts) n)) (λ c st. Some (made c, st))) (Plain IsAggregate (at (keyword k ∷ ts) n))
unfolding aggregated
aggregated_reads k made derives ts n =
    step (step (expects_symbol sign.OpenParen (at ts n)) (λ u s1 h1. step (reads_col s1) (λ c s2 hc. step (expects_symbol sign.CloseParen s2) (λ u2 s3 h3.
    gives_some (λ c st. Plain (λ us x vs. IsAggregate us (made x) vs) (at (keyword k ∷ ts) n) c st) c s3 (record {
      derived = subst (λ us. IsAggregate (keyword k ∷ us) (made c) s3.rest) (sym h1.rest) (derives s1.rest s3.rest c (subst (IsCol s1.rest c) h3.rest hc.derived));
      budget = h3.budget ∙ hc.budget ∙ h1.budget;
    })))))
    (λ c st h. gives_some _ (made c) st (record { derived = h.derived; budget = h.budget }))

count_reads : (ts : Lexemes) (n : ℕ) → Gives (read_count (at (keyword word.Count ∷ ts) n)) (Plain IsAggregate (at (keyword word.Count ∷ ts) n))
unfolding read_count
count_reads ts n =
    step (expects_symbol sign.OpenParen (at ts n)) (λ u s1 h1. step (expects_symbol sign.CloseParen s1) (λ u2 s2 h2.
    gives_some _ agg.Count s2 (record { derived = rw (h1.rest, h2.rest) g.count; budget = h2.budget ∙ h1.budget })))

aggregate_reads_at : (ts : Lexemes) (n : ℕ) → Gives (read_aggregate (at ts n)) (Plain IsAggregate (at ts n))
unfolding read_aggregate
aggregate_reads_at [] n = gives_none _
aggregate_reads_at (keyword word.Count ∷ ts) n = count_reads ts n
aggregate_reads_at (keyword word.Sum ∷ ts) n = aggregated_reads word.Sum agg.Sum (λ us vs c d. g.sum_of d) ts n
aggregate_reads_at (keyword word.Min ∷ ts) n = aggregated_reads word.Min agg.Min (λ us vs c d. g.min_of d) ts n
aggregate_reads_at (keyword word.Max ∷ ts) n = aggregated_reads word.Max agg.Max (λ us vs c d. g.max_of d) ts n
aggregate_reads_at (t ∷ ts) n = gives_none _

agg_reads : SoundPlain IsAgg read_agg
unfolding read_agg
agg_reads st =
    step (aggregate_reads_at st.rest st.budget) (λ a s1 h. step (reads_alias s1) (λ called s2 j.
    gives_some _ (a, called) s2 (record { derived = g.aggregate h.derived j.derived; budget = j.budget ∙ h.budget })))

falls_read : (old : State) (c : PCol) (ts : Lexemes) (n : ℕ) → Plain IsCol old c (at ts n) → Gives (and_then (falls_by (first_kind ts) (at ts n)) (λ falls st. Some ((c, falls), st))) (Plain IsKey old)
falls_read old c [] n h = gives_some _ (c, false) (at [] n) (record { derived = g.rising h.derived; budget = h.budget })
falls_read old c (keyword word.Asc ∷ ts) n h = gives_some _ (c, false) (at ts n) (record { derived = g.asc h.derived; budget = h.budget })
falls_read old c (keyword word.Desc ∷ ts) n h = gives_some _ (c, true) (at ts n) (record { derived = g.desc h.derived; budget = h.budget })
falls_read old c (t ∷ ts) n h = gives_some _ (c, false) (at (t ∷ ts) n) (record { derived = g.rising h.derived; budget = h.budget })

key_reads : SoundPlain IsKey read_key
unfolding read_key
key_reads st = step (reads_col st) (λ c s1 h. falls_read st c s1.rest s1.budget h)

-- ---- items and bounds

module _ (expr : Parser PExpr) (se : SoundExpr g.expr expr) where
  item_reads : Sound IsItem item_nodes (read_item expr)
  unfolding read_item
  item_reads st =
      step (se st) (λ a s1 h. step (reads_alias s1) (λ called s2 j.
      gives_some _ (record { expr = a; name = called }) s2 (record {
        tree = record { expr = h.tree; name = called };
        derived = g.item h.derived j.derived;
        spent = j.budget ∙ h.spent;
        same = λ le. let p = h.same (subst (λ n. 0 < n) j.budget le) in λ i. record { expr = p i; name = called };
      })))

  lower_reads_at : (ts : Lexemes) (n : ℕ) → Gives (read_lower expr (at ts n)) (Read IsLower bound_nodes (at ts n))
  unfolding read_lower
  lower_reads_at [] n = gives_none _
  lower_reads_at (keyword word.Any ∷ ts) n = gives_some _ bound.Any (at ts n) (record { tree = bound.Any; derived = g.any_lower; spent = spend_none n; same = λ le. refl })
  lower_reads_at (symbol sign.Ge ∷ ts) n = step (se (at ts n)) (λ a s1 h. gives_some _ (bound.Incl a) s1 (record { tree = bound.Incl h.tree; derived = g.from h.derived; spent = h.spent; same = λ le. ap bound.Incl (h.same le) }))
  lower_reads_at (symbol sign.Gt ∷ ts) n = step (se (at ts n)) (λ a s1 h. gives_some _ (bound.Excl a) s1 (record { tree = bound.Excl h.tree; derived = g.above h.derived; spent = h.spent; same = λ le. ap bound.Excl (h.same le) }))
  lower_reads_at (t ∷ ts) n = gives_none _

  upper_reads_at : (ts : Lexemes) (n : ℕ) → Gives (read_upper expr (at ts n)) (Read IsUpper bound_nodes (at ts n))
  unfolding read_upper
  upper_reads_at [] n = gives_none _
  upper_reads_at (keyword word.Any ∷ ts) n = gives_some _ bound.Any (at ts n) (record { tree = bound.Any; derived = g.any_upper; spent = spend_none n; same = λ le. refl })
  upper_reads_at (symbol sign.Le ∷ ts) n = step (se (at ts n)) (λ a s1 h. gives_some _ (bound.Incl a) s1 (record { tree = bound.Incl h.tree; derived = g.up_to h.derived; spent = h.spent; same = λ le. ap bound.Incl (h.same le) }))
  upper_reads_at (symbol sign.Lt ∷ ts) n = step (se (at ts n)) (λ a s1 h. gives_some _ (bound.Excl a) s1 (record { tree = bound.Excl h.tree; derived = g.below h.derived; spent = h.spent; same = λ le. ap bound.Excl (h.same le) }))
  upper_reads_at (t ∷ ts) n = gives_none _

-- ---- relations

-- what a rule derives behind its word and the parenthesis that opens
abbrev Behind : Keyword → Lexemes → PRel → Lexemes → Type 0
Behind k ts p us = IsRel (keyword k ∷ g.open_paren ∷ ts) p us

are_rels : {ts us : Lexemes} {ps : List PRel} → Separated IsRel ts ps us → AreRels ts ps us
are_rels (last d) = g.last_rel d
are_rels (more d s) = g.more_rels d (are_rels s)

-- nothing and nothing
pub no_sum : (a b : ℕ) → a ≡ 0 → b ≡ 0 → a + b ≡ 0
no_sum a b h k = omega (arith, h, k)

module _ (rel : Parser PRel) (expr : Parser PExpr) (sr : Sound IsRel nodes rel) (se : SoundExpr g.expr expr) where
  table_reads : Sound IsRel nodes read_table_name
  unfolding read_table_name
  table_reads st = step (reads_name st) (λ w s1 h. leaf_read IsRel nodes st s1 empty_rel (r.Table w) (rw h.rest g.table) h.budget (size.nodes-Table w))

  scalar_reads : Sound (Behind word.Scalar) nodes (read_scalar rel expr)
  unfolding read_scalar
  scalar_reads st =
      step_then _ sign.CloseParen st (item_reads expr se st) (λ i s h.
      node_read (Behind word.Scalar) nodes st s empty_rel (r.Scalar i) (r.Scalar h.tree) (item_nodes h.tree) (g.scalar h.derived) h.spent (size.nodes-Scalar h.tree) (λ le. ap r.Scalar (h.same le)))

  operands_read : Sound (λ ts ps us. Separated IsRel ts ps (g.close_paren ∷ us)) (all_nodes nodes) (read_rels rel expr)
  unfolding read_rels
  operands_read st =
      weaker _ (followed_reads (separated rel) sign.CloseParen st (separated_reads IsRel nodes rel sr st)) (λ ps s h. record { tree = h.tree; derived = h.derived; spent = h.spent; same = h.same })

  cross_reads : Sound (Behind word.Cross) nodes (λ st. and_then (read_rels rel expr st) (λ ps. rel_node (r.Cross ps)))
  cross_reads st =
      step (operands_read st) (λ ps s h.
      node_read (Behind word.Cross) nodes st s empty_rel (r.Cross ps) (r.Cross h.tree) (all_nodes nodes h.tree) (g.cross (are_rels h.derived)) h.spent (size.nodes-Cross h.tree) (λ le. ap r.Cross (h.same le)))

  concat_reads : Sound (Behind word.Concat) nodes (λ st. and_then (read_rels rel expr st) (λ ps. rel_node (r.Concat ps)))
  concat_reads st =
      step (operands_read st) (λ ps s h.
      node_read (Behind word.Concat) nodes st s empty_rel (r.Concat ps) (r.Concat h.tree) (all_nodes nodes h.tree) (g.concat (are_rels h.derived)) h.spent (size.nodes-Concat h.tree) (λ le. ap r.Concat (h.same le)))

  select_reads : Sound (Behind word.Select) nodes (read_select rel expr)
  unfolding read_select
  select_reads st =
      step_then _ sign.Comma st (bracketed_reads IsItem item_nodes (read_item expr) (item_reads expr se) st) (λ is s2 h. step_then _ sign.CloseParen s2 (sr s2) (λ p s4 j.
      node_read (Behind word.Select) nodes st s4 empty_rel (r.Select is p) (r.Select h.tree j.tree) (all_nodes item_nodes h.tree + nodes j.tree)
      (subst (λ us. Behind word.Select us (r.Select h.tree j.tree) s4.rest) (sym h.derived.1.0) (g.select h.derived.1.1 j.derived))
      (spends st.budget s2.budget s4.budget (all_nodes item_nodes h.tree) (nodes j.tree) h.spent j.spent)
      (size.nodes-Select h.tree j.tree)
      (λ le. let a = h.same (had_some s2.budget s4.budget (nodes j.tree) j.spent le) in let b = j.same le in λ i. r.Select (a i) (b i))))

  filter_reads : Sound (Behind word.Filter) nodes (read_filter rel expr)
  unfolding read_filter
  filter_reads st =
      step_then _ sign.Comma st (se st) (λ a s2 h. step_then _ sign.CloseParen s2 (sr s2) (λ p s4 j.
      node_read (Behind word.Filter) nodes st s4 empty_rel (r.Filter a p) (r.Filter h.tree j.tree) (expr_nodes h.tree + nodes j.tree) (g.filter h.derived j.derived)
      (spends st.budget s2.budget s4.budget (expr_nodes h.tree) (nodes j.tree) h.spent j.spent)
      (size.nodes-Filter h.tree j.tree)
      (λ le. let a = h.same (had_some s2.budget s4.budget (nodes j.tree) j.spent le) in let b = j.same le in λ i. r.Filter (a i) (b i))))

  join_reads : Sound (Behind word.Join) nodes (read_join rel expr)
  unfolding read_join
  join_reads st =
      step_then _ sign.Comma st (se st) (λ a s2 h. step_then _ sign.Comma s2 (sr s2) (λ p s4 j. step_then _ sign.CloseParen s4 (sr s4) (λ q s6 l.
      node_read (Behind word.Join) nodes st s6 empty_rel (r.Join a p q) (r.Join h.tree j.tree l.tree) (expr_nodes h.tree + (nodes j.tree + nodes l.tree)) (g.join h.derived j.derived l.derived)
      (spends st.budget s2.budget s6.budget (expr_nodes h.tree) (nodes j.tree + nodes l.tree) h.spent (spends s2.budget s4.budget s6.budget (nodes j.tree) (nodes l.tree) j.spent l.spent))
      (size.nodes-Join h.tree j.tree l.tree)
      (λ le.
      let l4 = had_some s4.budget s6.budget (nodes l.tree) l.spent le in
      let a = h.same (had_some s2.budget s4.budget (nodes j.tree) j.spent l4) in
      let b = j.same l4 in
      let c = l.same le in
      λ i. r.Join (a i) (b i) (c i)))))

  -- rel "as" NAME ","
  source_reads : (st : State) → Gives (read_source rel expr st) (Read (λ ts s us. IsRel ts s.0 (keyword word.As ∷ name s.1 ∷ g.comma ∷ us)) (λ s. nodes s.0) st)
  unfolding read_source
  source_reads st =
      step (sr st) (λ p s1 h. step (expects_keyword word.As s1) (λ u s2 h2. step (reads_name s2) (λ k s3 h3. step (expects_symbol sign.Comma s3) (λ u2 s4 h4.
      let same_count : s4.budget ≡ s1.budget = h4.budget ∙ h3.budget ∙ h2.budget in
      let rest : s1.rest ≡ keyword word.As ∷ name k ∷ g.comma ∷ s4.rest = h2.rest ∙ ap (λ us. keyword word.As ∷ us) (h3.rest ∙ ap (λ us. name k ∷ us) h4.rest) in
      gives_some _ (p, k) s4 (record {
        tree = (h.tree, k);
        derived = subst (IsRel st.rest h.tree) rest h.derived;
        spent = same_count ∙ h.spent;
        same = λ le. let a = h.same (subst (λ n. 0 < n) same_count le) in λ i. (a i, k);
      })))))

  binder_reads : (k : Keyword) (made : Word → PRel → PRel → PRel) → ((ts us vs : Lexemes) (w : Word) (p q : PRel) → IsRel ts p (keyword word.As ∷ name w ∷ g.comma ∷ us) → IsRel us q (g.close_paren ∷ vs) → Behind k ts (made w p q) vs) → ((w : Word) (p q : PRel) → nodes (made w p q) ≡ 1 + (nodes p + nodes q)) → Sound (Behind k) nodes (λ st. and_then (read_binder rel expr st) (λ b. rel_node (made b.0 b.1 b.2)))
  unfolding read_binder
  binder_reads k made derives sized st =
      step (step (source_reads st) (λ s s1 h. step_then _ sign.CloseParen s1 (sr s1) (λ q s3 j.
      gives_some (λ b new. Read (λ ts b us. Behind k ts (made b.0 b.1 b.2) us) (λ b. nodes b.1 + nodes b.2) st b new) (s.1, s.0, q) s3 (record {
        tree = (h.tree.1, h.tree.0, j.tree);
        derived = derives st.rest s1.rest s3.rest h.tree.1 h.tree.0 j.tree h.derived j.derived;
        spent = spends st.budget s1.budget s3.budget (nodes h.tree.0) (nodes j.tree) h.spent j.spent;
        same = λ le. let a = h.same (had_some s1.budget s3.budget (nodes j.tree) j.spent le) in let b = j.same le in λ i. ((a i).1, (a i).0, b i);
      }))))
      (λ b new h. node_read (Behind k) nodes st new empty_rel (made b.0 b.1 b.2) (made h.tree.0 h.tree.1 h.tree.2) (nodes h.tree.1 + nodes h.tree.2) h.derived h.spent (sized h.tree.0 h.tree.1 h.tree.2)
      (λ le. ap (λ t. made t.0 t.1 t.2) (h.same le)))

  hash_reads : Sound (Behind word.Hash) nodes (read_hash rel expr)
  unfolding read_hash
  hash_reads st =
      step (source_reads st) (λ s s1 h. step_then _ sign.Comma s1 (sr s1) (λ q s3 j. step_then _ sign.CloseParen s3 (bracketed_reads (IsExpr g.expr) expr_nodes expr se s3) (λ keys s5 l.
      node_read (Behind word.Hash) nodes st s5 empty_rel (r.Hash s.1 s.0 q keys) (r.Hash h.tree.1 h.tree.0 j.tree l.tree) (nodes h.tree.0 + (nodes j.tree + all_nodes expr_nodes l.tree))
      (g.hash h.derived (subst (λ us. IsRel s1.rest j.tree (g.comma ∷ us)) l.derived.1.0 j.derived) l.derived.1.1)
      (spends st.budget s1.budget s5.budget (nodes h.tree.0) (nodes j.tree + all_nodes expr_nodes l.tree) h.spent (spends s1.budget s3.budget s5.budget (nodes j.tree) (all_nodes expr_nodes l.tree) j.spent l.spent))
      (size.nodes-Hash h.tree.1 h.tree.0 j.tree l.tree)
      (λ le.
      let l3 = had_some s3.budget s5.budget (all_nodes expr_nodes l.tree) l.spent le in
      let a = h.same (had_some s1.budget s3.budget (nodes j.tree) j.spent l3) in
      let b = j.same l3 in
      let c = l.same le in
      λ i. r.Hash (a i).1 (a i).0 (b i) (c i)))))

  ordered_reads : Sound (Behind word.Ordered) nodes (read_ordered rel expr)
  unfolding read_ordered
  ordered_reads st =
      step (source_reads st) (λ s s1 h. step_then _ sign.Comma s1 (sr s1) (λ q s3 j. step_then _ sign.Comma s3 (lower_reads_at expr se s3.rest s3.budget) (λ lo s5 l. step_then _ sign.CloseParen s5 (upper_reads_at expr se s5.rest s5.budget) (λ hi s7 m.
      node_read (Behind word.Ordered) nodes st s7 empty_rel (r.Ord s.1 s.0 q lo hi) (r.Ord h.tree.1 h.tree.0 j.tree l.tree m.tree) (nodes h.tree.0 + (nodes j.tree + (bound_nodes l.tree + bound_nodes m.tree)))
      (g.ordered h.derived j.derived l.derived m.derived)
      (spends st.budget s1.budget s7.budget (nodes h.tree.0) (nodes j.tree + (bound_nodes l.tree + bound_nodes m.tree)) h.spent
      (spends s1.budget s3.budget s7.budget (nodes j.tree) (bound_nodes l.tree + bound_nodes m.tree) j.spent (spends s3.budget s5.budget s7.budget (bound_nodes l.tree) (bound_nodes m.tree) l.spent m.spent)))
      (size.nodes-Ord h.tree.1 h.tree.0 j.tree l.tree m.tree)
      (λ le.
      let l5 = had_some s5.budget s7.budget (bound_nodes m.tree) m.spent le in
      let l3 = had_some s3.budget s5.budget (bound_nodes l.tree) l.spent l5 in
      let a = h.same (had_some s1.budget s3.budget (nodes j.tree) j.spent l3) in
      let b = j.same l3 in
      let c = l.same l5 in
      let d = m.same le in
      λ i. r.Ord (a i).1 (a i).0 (b i) (c i) (d i))))))

  groupby_reads : Sound (Behind word.Groupby) nodes (read_groupby rel expr)
  unfolding read_groupby
  groupby_reads st =
      step_then _ sign.Comma st (maybe_bracketed_reads IsCol no_nodes read_col (plain reads_col) st) (λ keys s2 h. step_then _ sign.Comma s2 (maybe_bracketed_reads IsAgg no_nodes read_agg (plain agg_reads) s2) (λ aggs s4 j. step_then _ sign.CloseParen s4 (sr s4) (λ p s6 l.
      let none : s4.budget ≡ spend st.budget 0 = spends st.budget s2.budget s4.budget (all_nodes no_nodes h.tree) (all_nodes no_nodes j.tree) h.spent j.spent ∙ ap (spend st.budget) (no_sum (all_nodes no_nodes h.tree) (all_nodes no_nodes j.tree) (all_nodes-none h.tree) (all_nodes-none j.tree)) in
      node_read (Behind word.Groupby) nodes st s6 empty_rel (r.Group keys aggs p) (r.Group h.tree j.tree l.tree) (nodes l.tree)
      (subst (λ us. Behind word.Groupby us (r.Group h.tree j.tree l.tree) s6.rest) (sym h.derived.1.0)
      (g.groupby (subst (λ us. MaybeSeparated IsCol h.derived.0 h.tree (g.close_bracket ∷ g.comma ∷ us)) j.derived.1.0 h.derived.1.1) j.derived.1.1 l.derived))
      (spends st.budget s4.budget s6.budget 0 (nodes l.tree) none l.spent ∙ ap (spend st.budget) (zero-add (nodes l.tree)))
      (size.nodes-Group h.tree j.tree l.tree)
      (λ le.
      let l4 = had_some s4.budget s6.budget (nodes l.tree) l.spent le in
      let a = h.same (had_some s2.budget s4.budget (all_nodes no_nodes j.tree) j.spent l4) in
      let b = j.same l4 in
      let c = l.same le in
      λ i. r.Group (a i) (b i) (c i)))))

  orderby_reads : Sound (Behind word.Orderby) nodes (read_orderby rel expr)
  unfolding read_orderby
  orderby_reads st =
      step_then _ sign.Comma st (bracketed_reads IsKey no_nodes read_key (plain key_reads) st) (λ keys s2 h. step_then _ sign.CloseParen s2 (sr s2) (λ p s4 j.
      node_read (Behind word.Orderby) nodes st s4 empty_rel (r.Order keys p) (r.Order h.tree j.tree) (nodes j.tree)
      (subst (λ us. Behind word.Orderby us (r.Order h.tree j.tree) s4.rest) (sym h.derived.1.0) (g.orderby h.derived.1.1 j.derived))
      (spends st.budget s2.budget s4.budget 0 (nodes j.tree) (h.spent ∙ ap (spend st.budget) (all_nodes-none h.tree)) j.spent ∙ ap (spend st.budget) (zero-add (nodes j.tree)))
      (size.nodes-Order h.tree j.tree)
      (λ le. let a = h.same (had_some s2.budget s4.budget (nodes j.tree) j.spent le) in let b = j.same le in λ i. r.Order (a i) (b i))))

  dedup_reads : Sound (Behind word.Dedup) nodes (read_dedup rel expr)
  unfolding read_dedup
  dedup_reads st =
      step_then _ sign.CloseParen st (sr st) (λ p s h.
      node_read (Behind word.Dedup) nodes st s empty_rel (r.Dedup p) (r.Dedup h.tree) (nodes h.tree) (g.dedup h.derived) h.spent (size.nodes-Dedup h.tree) (λ le. ap r.Dedup (h.same le)))

  operator_reads : (k : Keyword) → Sound (Behind k) nodes (rel_by rel expr k)
  operator_reads word.Scalar = scalar_reads
  operator_reads word.Cross = cross_reads
  operator_reads word.Concat = concat_reads
  operator_reads word.Select = select_reads
  operator_reads word.Filter = filter_reads
  operator_reads word.Join = join_reads
  operator_reads word.Depjoin = binder_reads word.Depjoin r.DepJoin (λ ts us vs w p q d f. g.depjoin d f) size.nodes-DepJoin
  operator_reads word.List = binder_reads word.List r.List (λ ts us vs w p q d f. g.list d f) size.nodes-List
  operator_reads word.Hash = hash_reads
  operator_reads word.Ordered = ordered_reads
  operator_reads word.Groupby = groupby_reads
  operator_reads word.Orderby = orderby_reads
  operator_reads word.Dedup = dedup_reads
  operator_reads k = λ st. gives_none _

  word_reads : (k : Keyword) (ts : Lexemes) (n : ℕ) (b : Bool) → Gives (behind_word rel expr b (rel_by rel expr k) (at (keyword k ∷ ts) n)) (Read IsRel nodes (at (keyword k ∷ ts) n))
  word_reads k ts n false = gives_none _
  word_reads k ts n true =
      step (expects_symbol sign.OpenParen (at ts n)) (λ u s1 opens. weaker _ (operator_reads k s1) (λ x new h. record {
        tree = h.tree;
        derived = subst (λ us. IsRel (keyword k ∷ us) h.tree new.rest) (sym opens.rest) h.derived;
        spent = h.spent ∙ ap (λ m. spend m (nodes h.tree)) opens.budget;
        same = h.same;
      }))

  rel_reads_at : (ts : Lexemes) (n : ℕ) → Gives (read_rel rel expr (at ts n)) (Read IsRel nodes (at ts n))
  unfolding read_rel
  rel_reads_at [] n = gives_none _
  rel_reads_at (name w ∷ ts) n = table_reads (at (name w ∷ ts) n)
  rel_reads_at (int i ∷ ts) n = gives_none _
  rel_reads_at (text z ∷ ts) n = gives_none _
  rel_reads_at (symbol s ∷ ts) n = gives_none _
  rel_reads_at (keyword k ∷ ts) n = word_reads k ts n (begins_rel k)

pub rel_reads : (n : ℕ) → Sound IsRel nodes (rel_at n)
unfolding rel_at
rel_reads zero st = gives_none _
rel_reads (suc n) st = rel_reads_at (rel_at n) (expr_at n) (rel_reads n) (expr_reads n) st.rest st.budget
