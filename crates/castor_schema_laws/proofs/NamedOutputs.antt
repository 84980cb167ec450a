-- The columns that the lists of a relation put out have names of their form.
use Rattle.std.proofs.Common.{◌≡◌, ◌∙◌, ℕ, zero, suc, ◌+◌, ◌<◌, ◌≤◌, ◌==◌, arith, refl, sym, ap, subst, List, [], ◌∷◌, ◌++◌, find, length, Bool, true, false, ◌&&◌, Option, Some, None, Result, Ok, Err, slice_get, option_and_then}
use Rattle.std.specs.List.{list_all}
use Rattle.std.specs.Option.{option_map_or}
use Rattle.std.specs.Prelude.{if◌then◌else◌}
use Rattle.std.proofs.lemmas.List.{length-append}
use Rattle.std.proofs.lemmas.List.Folds.{list_all-append}
use Rattle.castor_val.specs.declared.value.Ty.{Ty}
use Rattle.castor_alg.specs.declared.expr.Expr.{Expr, out-Expr}
use Rattle.castor_alg.specs.declared.expr.Expr.TheOpen.{Expr-F, Col, Scope as ScopeColumn, Param, Lit, Bin, Not, If}
use Rattle.castor_tree.specs.declared.tree.Item.{Item}
use Rattle.castor_tree.specs.declared.tree.PAgg.{PAgg}
use Rattle.castor_tree.specs.declared.tree.PCol.{PCol}
use Rattle.castor_tree.specs.declared.tree.Word.{Word}
use Rattle.castor_tree.specs.Formed.{is_agg_formed, is_aggregate_formed, is_alias, is_expr_formed, is_item_formed}
use Rattle.castor_names.proofs.Outcomes.{Through, left_true, ok_same, right_true, some_from_ok, through}
use Rattle.castor_names.specs.Names.{called_or_numbered, column_called, column_number, column_numbered, the_column}
use Rattle.castor_names.specs.Scopes.{scope_column}
use Rattle.castor_names.specs.Turns.{and_then, in_order}
use Rattle.castor_names.specs.NameForms.{has_name_form}
use Rattle.castor_names.specs.declared.column.NamedColumn.{NamedColumn}
use Rattle.castor_names.specs.declared.declarations.Declarations.{Declarations}
use Rattle.castor_names.specs.declared.error.SchemaError.{SchemaError}
use Rattle.castor_names.specs.declared.error.SchemaError.TheVariants.{UnknownColumn}
use Rattle.castor_names.specs.declared.scopes.Scope.{Scope}
use Rattle.castor_exprs.specs.Groups.{aggregate_found, grouping_found, with_aggregate, with_group_key}
use Rattle.castor_exprs.specs.Items.{bare_column, item_column, item_output, items_selected, with_item}
use Rattle.castor_exprs.specs.declared.expression.Typed.{Typed}
use Rattle.castor_exprs.specs.declared.groups.Aggregate.{Aggregate}
use Rattle.castor_exprs.specs.declared.groups.Grouping.{Grouping}
use Rattle.castor_exprs.specs.declared.items.Output.{Output}
use Rattle.castor_exprs.specs.declared.items.Selection.{Selection}
use Rattle.castor_schema_laws.proofs.NameLaws.{called_named, numbered_named, word_named}
use Rattle.castor_schema_laws.proofs.OutputLaws.{IsItem, item_found}

abbrev pub is_named : NamedColumn → Bool
is_named c = has_name_form c.name

abbrev pub are_named : List NamedColumn → Bool
are_named columns = list_all is_named columns

abbrev pub are_scopes_named : List Scope → Bool
are_scopes_named scopes = list_all (λ (s : Scope). are_named s.columns) scopes

-- one of a list of which all pass a test
pub place_passes : {X : Type 0} (p : X → Bool) (xs : List X) (i : ℕ) (x : X) → list_all p xs ≡ true → slice_get xs i ≡ Some x → p x ≡ true
place_passes p [] i x all is = absurd cc
place_passes {X} p (y ∷ xs) zero x all is = let e : y ≡ x = cc in subst (λ (z : X). p z ≡ true) e (left_true (p y) (list_all p xs) all)
place_passes p (y ∷ xs) (suc i) x all is = place_passes p xs i x (right_true (p y) (list_all p xs) all) is

found_by : {X : Type 0} (p : X → Bool) (y x : X) (rest : Option X) (b : Bool) → p y ≡ true → (rest ≡ Some x → p x ≡ true) → (if b then Some y else rest) ≡ Some x → p x ≡ true
found_by {X} p y x rest true here more is = let e : y ≡ x = cc in subst (λ (z : X). p z ≡ true) e here
found_by p y x rest false here more is = more is

find_passes : {X : Type 0} (p test : X → Bool) (xs : List X) (x : X) → list_all p xs ≡ true → find test xs ≡ Some x → p x ≡ true
find_passes p test [] x all is = absurd cc
find_passes p test (y ∷ xs) x all is =
    found_by p y x (find test xs) (test y) (left_true (p y) (list_all p xs) all) (λ found. find_passes p test xs x (right_true (p y) (list_all p xs) all) found) is

-- one column more
push_named : (columns : List NamedColumn) (c : NamedColumn) → are_named columns ≡ true → is_named c ≡ true → are_named (columns ++ c ∷ []) ≡ true
push_named columns c are is = list_all-append is_named columns (c ∷ []) ∙ (λ i. are i && (is i && true))

-- the columns of items
kept_named : (columns : List NamedColumn) (at number : ℕ) (type : Ty) (o : Option NamedColumn) → slice_get columns at ≡ o → are_named columns ≡ true → number < 64
    → is_named (option_map_or (λ (c : NamedColumn). let k : NamedColumn = record { name = c.name; qualifier = c.qualifier; ty = type } in k) o (column_numbered number type)) ≡ true
kept_named columns at number type None found are few = numbered_named number type few
kept_named columns at number type (Some c) found are few = place_passes is_named columns at c are found

in_scope : (at : ℕ) (o : Option Scope) (c : NamedColumn) → ((s : Scope) → o ≡ Some s → are_named s.columns ≡ true) → option_and_then (λ (s : Scope). slice_get s.columns at) o ≡ Some c → is_named c ≡ true
in_scope at None c named is = absurd cc
in_scope at (Some s) c named is = place_passes is_named s.columns at c (named s refl) is

unqualified_named : (scopes : List Scope) (scope at number : ℕ) (type : Ty) (o : Option NamedColumn) → scope_column scopes scope at ≡ o → are_scopes_named scopes ≡ true → number < 64
    → is_named (option_map_or (λ (c : NamedColumn). column_called c.name type) o (column_numbered number type)) ≡ true
unqualified_named scopes scope at number type None found are few = numbered_named number type few
unqualified_named scopes scope at number type (Some c) found are few =
    in_scope at (find (λ (s : Scope). s.number == scope) scopes) c (λ s is. find_passes (λ (s : Scope). are_named s.columns) (λ (s : Scope). s.number == scope) scopes s are is) found

bare_named : (scopes : List Scope) (columns : List NamedColumn) (number : ℕ) (type : Ty) (e : Expr-F Expr) → are_scopes_named scopes ≡ true → are_named columns ≡ true → number < 64
    → is_named (bare_column scopes columns number type e) ≡ true
unfolding bare_column
bare_named scopes columns number type (Col at) inside are few = kept_named columns at number type (slice_get columns at) refl are few
bare_named scopes columns number type (ScopeColumn scope at) inside are few = unqualified_named scopes scope at number type (scope_column scopes scope at) refl inside few
bare_named scopes columns number type (Param p) inside are few = numbered_named number type few
bare_named scopes columns number type (Lit v) inside are few = numbered_named number type few
bare_named scopes columns number type (Bin op a b) inside are few = numbered_named number type few
bare_named scopes columns number type (Not a) inside are few = numbered_named number type few
bare_named scopes columns number type (If c a b) inside are few = numbered_named number type few

item_named : (scopes : List Scope) (columns : List NamedColumn) (number : ℕ) (name : Option Word) (t : Typed) → are_scopes_named scopes ≡ true → are_named columns ≡ true → is_alias name ≡ true → number < 64
    → is_named (item_column scopes columns number name t) ≡ true
unfolding item_column
item_named scopes columns number (Some word) t inside are alias few = word_named word alias
item_named scopes columns number None t inside are alias few = bare_named scopes columns number t.ty (out-Expr t.expr) inside are few

module _ (known : Declarations) (scopes : List Scope) (inside : are_scopes_named scopes ≡ true) (columns : List NamedColumn) (are : are_named columns ≡ true) where
  pub output_named : (number : ℕ) (item : Item) (output : Output) → is_item_formed item ≡ true → number < 64 → item_output known scopes columns number item ≡ Ok output → is_named output.column ≡ true
  output_named number item output formed few is =
      let i = item_found known scopes columns number item output is in
      subst (λ (c : NamedColumn). is_named c ≡ true) (sym i.column)
      (item_named scopes columns number item.name i.found inside are (right_true (is_expr_formed item.expr) (is_alias item.name) formed) few)

  -- one item more
  record IsMore (start more : Selection) (item : Item) : Type 0 where
    output : Output
    is : item_output known scopes columns (length start.columns) item ≡ Ok output
    put_out : more.columns ≡ start.columns ++ output.column ∷ []

  item_more : (start more : Selection) (item : Item) → with_item known scopes columns start item ≡ Ok more → IsMore start more item
  item_more start more item is =
      let f = through (item_output known scopes columns (length start.columns) item) (λ (output : Output). Ok (record { exprs = start.exprs ++ output.expr ∷ []; columns = start.columns ++ output.column ∷ [] })) more is in
      let e : record { exprs = start.exprs ++ f.first.expr ∷ []; columns = start.columns ++ f.first.column ∷ [] } ≡ more = ok_same _ _ f.rest in
      record { output = f.first; is = f.is; put_out = ap (λ (s : Selection). s.columns) (sym e) }

  items_count : (items : List Item) (start all : Selection) → in_order (with_item known scopes columns) start items ≡ Ok all → length all.columns ≡ length start.columns + length items
  items_count [] start all is = ap (λ (s : Selection). length s.columns) (sym (ok_same _ _ is)) ∙ sym (omega arith)
  items_count (item ∷ items) start all is =
      let f = through (with_item known scopes columns start item) (λ more. in_order (with_item known scopes columns) more items) all is in
      let m = item_more start f.first item f.is in
      let a = items_count items f.first all f.rest in
      let b = ap (λ (cs : List NamedColumn). length cs) m.put_out ∙ length-append start.columns (m.output.column ∷ []) in
      omega arith

  with_items_named : (items : List Item) (start all : Selection) → list_all is_item_formed items ≡ true → are_named start.columns ≡ true → length all.columns ≤ 64
      → in_order (with_item known scopes columns) start items ≡ Ok all → are_named all.columns ≡ true
  with_items_named [] start all formed so_far few is = subst (λ (s : Selection). are_named s.columns ≡ true) (ok_same _ _ is) so_far
  with_items_named (item ∷ items) start all formed so_far few is =
      let f = through (with_item known scopes columns start item) (λ more. in_order (with_item known scopes columns) more items) all is in
      let m = item_more start f.first item f.is in
      let n = items_count (item ∷ items) start all is in
      let one = output_named (length start.columns) item m.output (left_true (is_item_formed item) (list_all is_item_formed items) formed) (omega arith) m.is in
      with_items_named items f.first all (right_true (is_item_formed item) (list_all is_item_formed items) formed)
      (subst (λ (cs : List NamedColumn). are_named cs ≡ true) (sym m.put_out) (push_named start.columns m.output.column so_far one)) few f.rest

  pub items_named : (items : List Item) (all : Selection) → list_all is_item_formed items ≡ true → length all.columns ≤ 64 → items_selected known scopes columns items ≡ Ok all → are_named all.columns ≡ true
  unfolding items_selected
  items_named items all formed few is = with_items_named items (record { exprs = []; columns = [] }) all formed refl few is

module _ (from : List NamedColumn) (are : are_named from ≡ true) where
  with_keys_named : (keys : List PCol) (start all : Grouping) → are_named start.columns ≡ true → in_order (with_group_key from) start keys ≡ Ok all → are_named all.columns ≡ true
  unfolding with_group_key
  with_keys_named [] start all so_far is = subst (λ (g : Grouping). are_named g.columns ≡ true) (ok_same _ _ is) so_far
  with_keys_named (key ∷ keys) start all so_far is =
      let f = through (with_group_key from start key) (λ more. in_order (with_group_key from) more keys) all is in
      let g = through (column_number from key) (λ number. and_then (the_column from number) (λ column. Ok (record start { keys = start.keys ++ number ∷ []; columns = start.columns ++ column ∷ [] }))) f.first f.is in
      let h = through (the_column from g.first) (λ column. Ok (record start { keys = start.keys ++ g.first ∷ []; columns = start.columns ++ column ∷ [] })) f.first g.rest in
      let e : record start { keys = start.keys ++ g.first ∷ []; columns = start.columns ++ h.first ∷ [] } ≡ f.first = ok_same _ _ h.rest in
      let one = place_passes is_named from g.first h.first are (some_from_ok (slice_get from g.first) UnknownColumn h.first h.is) in
      with_keys_named keys f.first all (subst (λ (g : Grouping). are_named g.columns ≡ true) e (push_named start.columns h.first so_far one)) f.rest

  record IsAggregated (start more : Grouping) (name : Option Word) : Type 0 where
    ty : Ty
    columns : more.columns ≡ start.columns ++ called_or_numbered name (length start.columns) ty ∷ []

  aggregate_more : (start more : Grouping) (agg : PAgg) (name : Option Word) → with_aggregate from start (agg, name) ≡ Ok more → IsAggregated start more name
  unfolding with_aggregate
  aggregate_more start more agg name is =
      let f = through (aggregate_found from agg) (λ (one : Aggregate). Ok (record start { aggs = start.aggs ++ one.agg ∷ []; columns = start.columns ++ called_or_numbered name (length start.columns) one.ty ∷ [] })) more is in
      let e : record start { aggs = start.aggs ++ f.first.agg ∷ []; columns = start.columns ++ called_or_numbered name (length start.columns) f.first.ty ∷ [] } ≡ more = ok_same _ _ f.rest in
      record { ty = f.first.ty; columns = ap (λ (g : Grouping). g.columns) (sym e) }

  aggregates_count : (aggs : List (PAgg × Option Word)) (start all : Grouping) → in_order (with_aggregate from) start aggs ≡ Ok all → length all.columns ≡ length start.columns + length aggs
  aggregates_count [] start all is = ap (λ (g : Grouping). length g.columns) (sym (ok_same _ _ is)) ∙ sym (omega arith)
  aggregates_count ((agg, name) ∷ aggs) start all is =
      let f = through (with_aggregate from start (agg, name)) (λ more. in_order (with_aggregate from) more aggs) all is in
      let m = aggregate_more start f.first agg name f.is in
      let a = aggregates_count aggs f.first all f.rest in
      let b = ap (λ (cs : List NamedColumn). length cs) m.columns ∙ length-append start.columns (called_or_numbered name (length start.columns) m.ty ∷ []) in
      omega arith

  with_aggregates_named : (aggs : List (PAgg × Option Word)) (start all : Grouping) → list_all is_agg_formed aggs ≡ true → are_named start.columns ≡ true → length all.columns ≤ 64
      → in_order (with_aggregate from) start aggs ≡ Ok all → are_named all.columns ≡ true
  with_aggregates_named [] start all formed so_far few is = subst (λ (g : Grouping). are_named g.columns ≡ true) (ok_same _ _ is) so_far
  with_aggregates_named ((agg, name) ∷ aggs) start all formed so_far few is =
      let f = through (with_aggregate from start (agg, name)) (λ more. in_order (with_aggregate from) more aggs) all is in
      let m = aggregate_more start f.first agg name f.is in
      let n = aggregates_count ((agg, name) ∷ aggs) start all is in
      let alias = right_true (is_aggregate_formed agg) (is_alias name) (left_true (is_agg_formed (agg, name)) (list_all is_agg_formed aggs) formed) in
      let one = called_named name (length start.columns) m.ty alias (omega arith) in
      with_aggregates_named aggs f.first all (right_true (is_agg_formed (agg, name)) (list_all is_agg_formed aggs) formed)
      (subst (λ (cs : List NamedColumn). are_named cs ≡ true) (sym m.columns) (push_named start.columns (called_or_numbered name (length start.columns) m.ty) so_far one)) few f.rest

  pub grouping_named : (keys : List PCol) (aggs : List (PAgg × Option Word)) (all : Grouping) → list_all is_agg_formed aggs ≡ true → length all.columns ≤ 64 → grouping_found from keys aggs ≡ Ok all → are_named all.columns ≡ true
  unfolding grouping_found
  grouping_named keys aggs all formed few is =
      let f = through (in_order (with_group_key from) (record { keys = []; aggs = []; columns = [] }) keys) (λ found. in_order (with_aggregate from) found aggs) all is in
      with_aggregates_named aggs f.first all formed (with_keys_named keys (record { keys = []; aggs = []; columns = [] }) f.first refl f.is) few f.rest
