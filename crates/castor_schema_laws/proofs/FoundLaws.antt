-- What relations of one operator are found to be: well typed, within limits, and as large as their tree of names.
use Rattle.std.proofs.Common.{◌≡◌, ◌∙◌, ℕ, zero, suc, ◌+◌, ◌<◌, ◌≤◌, max, arith, refl, sym, ap, subst, List, [], ◌∷◌, ◌++◌, map, length, Bool, true, false, ◌&&◌, not, Option, Some, None, Result, Ok, Err, slice_get, nat_lt, nat_le, ◌==◌, option_and_then, option_map}
use Rattle.std.specs.List.{list_all}
use Rattle.std.specs.Prelude.{ok_or, position, if◌then◌else◌}
use Rattle.std.specs.Str.{bytes_eq}
use Rattle.std.proofs.lemmas.Bool.{le-leb, leb-true, lt-ltb, ltb-false, ltb-true}
use Rattle.std.proofs.lemmas.List.{append-nil, length-append, length-map, map-append}
use Rattle.std.proofs.lemmas.Option.{slice_get-map}
use Rattle.castor_val.specs.declared.column.Column.{Column}
use Rattle.castor_val.specs.declared.value.Ty.{Ty}
use Rattle.castor_val.specs.declared.value.Ty.TheVariants.{Bool as Truth}
use Rattle.castor_alg.specs.declared.context.Context.{Context}
use Rattle.castor_alg.specs.declared.expr.Expr.{Expr}
use Rattle.castor_alg.specs.declared.rel.Agg.{Agg}
use Rattle.castor_alg.specs.declared.rel.Key.{Key}
use Rattle.castor_alg.specs.declared.rel.Rel.{Rel}
use Rattle.castor_alg.specs.declared.rel.Rel as core
use Rattle.castor_alg.specs.Sizes.{depth, depth_step, nodes, nodes_step}
use Rattle.castor_alg.specs.Typing.{RelTyping, aggregate_type, allowed, are_columns, are_hash_keys, are_sorting_keys, column_types_step, cross_types, each, extended, group_types, is_bound, is_of, is_range, same_type, same_types, type_under, types_of_each, types_under, with_both, within_limits}
use Rattle.castor_alg.proofs.RelInduction as algebra
use Rattle.castor_tree.specs.declared.tree.Item.{Item}
use Rattle.castor_tree.specs.declared.tree.PAgg.{PAgg}
use Rattle.castor_tree.specs.declared.tree.PBound.{PBound}
use Rattle.castor_tree.specs.declared.tree.PCol.{PCol}
use Rattle.castor_tree.specs.declared.tree.PExpr.{PExpr}
use Rattle.castor_tree.specs.declared.tree.Word.{Word}
use Rattle.castor_tree.specs.Sizes as names
use Rattle.castor_names.proofs.Outcomes.{Through, found_as, left_true, ok_same, right_true, some_from_ok, through, unless, where_true}
use Rattle.castor_names.specs.Names.{columns_of_table, types_of}
use Rattle.castor_names.specs.Turns.{and_then, in_order}
use Rattle.castor_names.specs.declared.table.Declared.{Declared}
use Rattle.castor_names.specs.declared.column.NamedColumn.{NamedColumn}
use Rattle.castor_names.specs.declared.declarations.Declarations.{Declarations}
use Rattle.castor_names.specs.declared.error.SchemaError.{SchemaError}
use Rattle.castor_names.specs.declared.error.SchemaError.TheVariants.{UnknownTable, TypeMismatch, WrongCount, TooLarge}
use Rattle.castor_names.specs.declared.scopes.Scope.{Scope}
use Rattle.castor_exprs.specs.Expressions.{expression}
use Rattle.castor_exprs.specs.Groups.{grouping_found, sorting_keys, sums_ints}
use Rattle.castor_exprs.specs.Items.{item_output, items_selected}
use Rattle.castor_exprs.specs.Bounds.{is_bound_of, range_found}
use Rattle.castor_exprs.specs.Indexes.{index_keys, is_key_count}
use Rattle.castor_exprs.specs.declared.bounds.TypedRange.{TypedRange}
use Rattle.castor_exprs.specs.declared.expression.Typed.{Typed}
use Rattle.castor_exprs.specs.declared.groups.Grouping.{Grouping}
use Rattle.castor_exprs.specs.declared.indexes.IndexKeys.{IndexKeys}
use Rattle.castor_exprs.specs.declared.items.Output.{Output}
use Rattle.castor_exprs.specs.declared.items.Selection.{Selection}
use Rattle.castor_operators.specs.Operators.{deduped, depjoined, filtered, filtered_by, grouped_by, hashed, is_no_grouping, joined, joined_by, limited, listed, order_by_keys, ordered, scalar_found, scalar_of, selected, side_by_side, summed_by, table_found}
use Rattle.castor_operators.specs.declared.found.Found.{Found}
use Rattle.castor_operators.specs.declared.binders.Binding.{Binding}
use Rattle.castor_schema_laws.proofs.Contexts.{InForce, context_in, table_types}
use Rattle.castor_schema_laws.proofs.ExpressionLaws.{IsTyped, expression-typed}
use Rattle.castor_schema_laws.proofs.Gathered.{AreTyped}
use Rattle.castor_schema_laws.proofs.GroupLaws.{grouping-typed, sorting-typed}
use Rattle.castor_schema_laws.proofs.OutputLaws.{items-typed, keys-typed, output-typed, range-typed}

-- a relation that is well typed under the context with these columns, of so many nodes and such a depth; its binders are numbered from `start` on
pub record IsFound (context : Context) (start n d : ℕ) (found : Found) : Type 0 where
  pub typed : types_under found.query context ≡ Some (types_of found.columns)
  pub wide : are_columns (types_of found.columns) ≡ true
  pub nodes : nodes found.query ≡ n
  pub depth : depth found.query ≡ d
  pub next : start ≤ found.next

-- the sizes may be written otherwise
pub found_sized : (context : Context) (start n m d g : ℕ) (found : Found) → IsFound context start n d found → n ≡ m → d ≡ g → IsFound context start m g found
found_sized context start n m d g found f same_nodes same_depth = record { typed = f.typed; wide = f.wide; nodes = f.nodes ∙ same_nodes; depth = f.depth ∙ same_depth; next = f.next }

-- each table has 1 to 64 columns
abbrev pub AreKnown : Declarations → Type 0
AreKnown known = list_all (λ t. are_columns (table_types t)) known.tables ≡ true

abbrev ty_of : NamedColumn → Ty
ty_of c = c.ty

abbrev typed_in : Context → RelTyping → Option (List Ty)
typed_in context m = m context

pub wide_from : (columns : List NamedColumn) → 0 < length columns → length columns ≤ 64 → are_columns (types_of columns) ≡ true
wide_from columns some few =
    let n = length-map columns ty_of in
    λ i. lt-ltb 0 (length (types_of columns)) (subst (λ (k : ℕ). 0 < k) (sym n) some) i && le-leb (length (types_of columns)) 64 (subst (λ (k : ℕ). k ≤ 64) (sym n) few) i

pub wide_some : (columns : List NamedColumn) → are_columns (types_of columns) ≡ true → 0 < length columns
wide_some columns wide =
    subst (λ (k : ℕ). 0 < k) (length-map columns ty_of)
    (ltb-true 0 (length (types_of columns)) (left_true (nat_lt 0 (length (types_of columns))) (nat_le (length (types_of columns)) 64) wide))

-- one of a list of which all pass a test
one_passes : {X : Type 0} (p : X → Bool) (xs : List X) (i : ℕ) (x : X) → list_all p xs ≡ true → slice_get xs i ≡ Some x → p x ≡ true
one_passes p [] i x all is = absurd cc
one_passes {X} p (y ∷ xs) zero x all is = let e : y ≡ x = cc in subst (λ (z : X). p z ≡ true) e (left_true (p y) (list_all p xs) all)
one_passes p (y ∷ xs) (suc i) x all is = one_passes p xs i x (right_true (p y) (list_all p xs) all) is

pub true_from_not : (b : Bool) → not b ≡ false → b ≡ true
true_from_not true is = refl
true_from_not false is = absurd cc

of_table : (name : List ℕ) (columns : List Column) → map ty_of (map (λ (c : Column). let n : NamedColumn = record { name = c.name; qualifier = Some name; ty = c.ty } in n) columns) ≡ map (λ (c : Column). c.ty) columns
of_table name [] = refl
of_table name (c ∷ columns) = ap (λ (ts : List Ty). c.ty ∷ ts) (of_table name columns)

module _ (context : Context) where
  -- what an operator gives
  pub made : (query : Rel) (columns : List NamedColumn) (next start n d : ℕ) (found : Found)
      → types_under query context ≡ Some (types_of columns) → are_columns (types_of columns) ≡ true → nodes query ≡ n → depth query ≡ d → start ≤ next
      → found_as SchemaError (record { query = query; columns = columns; next = next }) ≡ Ok found → IsFound context start n d found
  made query columns next start n d found typed wide sum deep le is =
      subst (IsFound context start n d) (ok_same _ _ is) (record { typed = typed; wide = wide; nodes = sum; depth = deep; next = le })

  -- what an operator gives, if it isn't too wide
  pub made_limited : (query : Rel) (columns : List NamedColumn) (next start n d : ℕ) (found : Found)
      → types_under query context ≡ within_limits (Some (types_of columns)) → 0 < length columns → nodes query ≡ n → depth query ≡ d → start ≤ next
      → limited query columns next ≡ Ok found → IsFound context start n d found
  unfolding limited
  made_limited query columns next start n d found typed some sum deep le is =
      let f = unless (nat_lt 64 (length columns)) TooLarge (Ok (record { query = query; columns = columns; next = next })) found is in
      let wide = wide_from columns some (ltb-false 64 (length columns) f.passes) in
      made query columns next start n d found (typed ∙ ap (λ (b : Bool). allowed b (types_of columns)) wide) wide sum deep le f.rest

  selected_types : (o : Option (List Ty)) (es : List Expr) (columns : List NamedColumn) (types : List Ty) → o ≡ Some (types_of columns) → types_of_each es (types_of columns) context ≡ Some types
      → option_and_then (λ columns. within_limits (types_of_each es columns context)) o ≡ within_limits (Some types)
  selected_types o es columns types from are = ap (option_and_then (λ columns. within_limits (types_of_each es columns context))) from ∙ ap within_limits are

  tested_types : (o : Option (List Ty)) (e : Expr) (columns : List NamedColumn) (type : Ty) → o ≡ Some (types_of columns) → type_under e (types_of columns) context ≡ Some type → same_type Truth type ≡ true
      → option_and_then (λ columns. allowed (is_of Truth (type_under e columns context)) columns) o ≡ Some (types_of columns)
  tested_types o e columns type from is holds =
      ap (option_and_then (λ columns. allowed (is_of Truth (type_under e columns context)) columns)) from
      ∙ ap (λ (o : Option Ty). allowed (is_of Truth o) (types_of columns)) is
      ∙ ap (λ (b : Bool). allowed b (types_of columns)) holds

-- a grouping has a column for a key or an aggregate
keys_some : (o : Option Ty) (os vs : Option (List Ty)) (types : List Ty) → with_both (λ keys values. keys ++ values) (with_both (λ t ts. t ∷ ts) o os) vs ≡ Some types → 0 < length types
keys_some None os vs types is = absurd cc
keys_some (Some t) None vs types is = absurd cc
keys_some (Some t) (Some ts) None types is = absurd cc
keys_some (Some t) (Some ts) (Some us) types is = let e : t ∷ (ts ++ us) ≡ types = cc in subst (λ (zs : List Ty). 0 < length zs) e (omega arith)

values_some : (o : Option Ty) (os : Option (List Ty)) (types : List Ty) → with_both (λ keys values. keys ++ values) (Some []) (with_both (λ t ts. t ∷ ts) o os) ≡ Some types → 0 < length types
values_some None os types is = absurd cc
values_some (Some t) None types is = absurd cc
values_some (Some t) (Some ts) types is = let e : t ∷ ts ≡ types = cc in subst (λ (zs : List Ty). 0 < length zs) e (omega arith)

grouping_some : (columns : List Ty) (keys : List ℕ) (aggs : List Agg) (types : List Ty) → is_no_grouping keys aggs ≡ false
    → with_both (λ keys values. keys ++ values) (each (map (λ k. slice_get columns k) keys)) (each (map (aggregate_type columns) aggs)) ≡ Some types → 0 < length types
grouping_some columns [] [] types given is = absurd cc
grouping_some columns [] (a ∷ aggs) types given is = values_some (aggregate_type columns a) (each (map (aggregate_type columns) aggs)) types is
grouping_some columns (k ∷ keys) aggs types given is = keys_some (slice_get columns k) (each (map (λ k. slice_get columns k) keys)) (each (map (aggregate_type columns) aggs)) types is

module _ (known : Declarations) (scopes : List Scope) (next : ℕ) (force : InForce next scopes) where
  abbrev here : Context
  here = context_in known scopes

  -- tables
  table_at : (number : ℕ) (o : Option Declared) (found : Found) → AreKnown known → slice_get known.tables number ≡ o
      → ok_or (option_map (λ (t : Declared). let f : Found = record { query = core.Table number; columns = columns_of_table t; next = next } in f) o) UnknownTable ≡ Ok found → IsFound here next 1 1 found
  table_at number None found are at is = absurd cc
  table_at number (Some t) found are at is =
      let same = of_table t.name t.columns in
      made here (core.Table number) (columns_of_table t) next next 1 1 found
      (ap (typed_in here) (algebra.fold-Table RelTyping column_types_step number) ∙ slice_get-map table_types known.tables number ∙ ap (option_map table_types) at ∙ ap Some (sym same))
      (ap are_columns same ∙ one_passes (λ t. are_columns (table_types t)) known.tables number t are at)
      (algebra.fold-Table ℕ nodes_step number) (algebra.fold-Table ℕ depth_step number) (omega arith) is

  table_by : (o : Option ℕ) (found : Found) → AreKnown known
      → ok_or (option_and_then (λ number. option_map (λ (t : Declared). let f : Found = record { query = core.Table number; columns = columns_of_table t; next = next } in f) (slice_get known.tables number)) o) UnknownTable ≡ Ok found → IsFound here next 1 1 found
  table_by None found are is = absurd cc
  table_by (Some number) found are is = table_at number (slice_get known.tables number) found are refl is

  pub table-found : (name : List ℕ) (found : Found) → AreKnown known → table_found known.tables next name ≡ Ok found → IsFound here next 1 1 found
  unfolding table_found
  table-found name found are is = table_by (position (λ (t : Declared). bytes_eq t.name name) known.tables) found are is

  -- one item
  pub scalar-found : (item : Item) (found : Found) → scalar_found known scopes next item ≡ Ok found → IsFound here next (1 + names.item_nodes item) (1 + names.item_depth item) found
  unfolding scalar_found scalar_of
  scalar-found item found is =
      let f = through (item_output known scopes [] 0 item) (λ output. scalar_of next output) found is in
      let t = output-typed known scopes next force [] 0 item f.first f.is in
      made here (core.Scalar f.first.expr) (f.first.column ∷ []) next next (1 + names.item_nodes item) (1 + names.item_depth item) found
      (ap (typed_in here) (algebra.fold-Scalar RelTyping column_types_step f.first.expr) ∙ ap (option_map (λ (t : Ty). t ∷ [])) t.typed)
      refl
      (algebra.fold-Scalar ℕ nodes_step f.first.expr ∙ ap (λ (k : ℕ). 1 + k) t.nodes)
      (algebra.fold-Scalar ℕ depth_step f.first.expr ∙ ap (λ (k : ℕ). 1 + k) t.depth) (omega arith) f.rest

  module _ (start n d : ℕ) (from : Found) (operand : IsFound here start n d from) where
    pub selected-found : (items : List Item) (found : Found) → 0 < length items → selected known scopes items from ≡ Ok found
        → IsFound here start (1 + (names.all_nodes names.item_nodes items + n)) (1 + max (names.deepest (map names.item_depth items)) d) found
    unfolding selected
    selected-found items found some is =
        let f = through (items_selected known scopes from.columns items) (λ (all : Selection). limited (core.Select all.exprs from.query) all.columns from.next) found is in
        let t = items-typed known scopes next force from.columns items f.first f.is in
        made_limited here (core.Select f.first.exprs from.query) f.first.columns from.next start (1 + (names.all_nodes names.item_nodes items + n)) (1 + max (names.deepest (map names.item_depth items)) d) found
        (ap (typed_in here) (algebra.fold-Select RelTyping column_types_step f.first.exprs from.query)
        ∙ selected_types here (types_under from.query here) f.first.exprs from.columns (types_of f.first.columns) operand.typed t.0.typed)
        (subst (λ (k : ℕ). 0 < k) (sym t.1) some)
        (algebra.fold-Select ℕ nodes_step f.first.exprs from.query ∙ (λ i. 1 + (t.0.nodes i + operand.nodes i)))
        (algebra.fold-Select ℕ depth_step f.first.exprs from.query ∙ (λ i. 1 + max (t.0.depth i) (operand.depth i)))
        operand.next f.rest

    pub filtered-found : (e : PExpr) (found : Found) → filtered known scopes e from ≡ Ok found → IsFound here start (1 + (names.expr_nodes e + n)) (1 + max (names.expr_depth e) d) found
    unfolding filtered filtered_by
    filtered-found e found is =
        let f = through (expression e known scopes from.columns) (λ test. filtered_by from test) found is in
        let t = expression-typed e known scopes next from.columns f.first force f.is in
        let g = where_true (same_type Truth f.first.ty) TypeMismatch (Ok (record { query = core.Filter f.first.expr from.query; columns = from.columns; next = from.next })) found f.rest in
        made here (core.Filter f.first.expr from.query) from.columns from.next start (1 + (names.expr_nodes e + n)) (1 + max (names.expr_depth e) d) found
        (ap (typed_in here) (algebra.fold-Filter RelTyping column_types_step f.first.expr from.query)
        ∙ tested_types here (types_under from.query here) f.first.expr from.columns f.first.ty operand.typed t.typed g.holds)
        operand.wide
        (algebra.fold-Filter ℕ nodes_step f.first.expr from.query ∙ (λ i. 1 + (t.nodes i + operand.nodes i)))
        (algebra.fold-Filter ℕ depth_step f.first.expr from.query ∙ (λ i. 1 + max (t.depth i) (operand.depth i)))
        operand.next g.rest

    pub grouped-found : (keys : List PCol) (aggs : List (PAgg × Option Word)) (grouping : Grouping) (found : Found) → grouping_found from.columns keys aggs ≡ Ok grouping → grouped_by from grouping ≡ Ok found
        → IsFound here start (1 + n) (1 + d) found
    unfolding grouped_by summed_by
    grouped-found keys aggs grouping found grouped is =
        let f = unless (is_no_grouping grouping.keys grouping.aggs) WrongCount
        (summed_by from grouping) found is in
        let g = where_true (list_all (sums_ints from.columns) grouping.aggs) TypeMismatch (limited (core.Group grouping.keys grouping.aggs from.query) grouping.columns from.next) found f.rest in
        let typed = (grouping-typed from.columns keys aggs grouping grouped).typed g.holds in
        made_limited here (core.Group grouping.keys grouping.aggs from.query) grouping.columns from.next start (1 + n) (1 + d) found
        (ap (typed_in here) (algebra.fold-Group RelTyping column_types_step grouping.keys grouping.aggs from.query)
        ∙ ap (option_and_then (λ columns. group_types grouping.keys grouping.aggs columns)) operand.typed
        ∙ ap within_limits typed)
        (subst (λ (k : ℕ). 0 < k) (length-map grouping.columns ty_of) (grouping_some (types_of from.columns) grouping.keys grouping.aggs (types_of grouping.columns) f.passes typed))
        (algebra.fold-Group ℕ nodes_step grouping.keys grouping.aggs from.query ∙ ap (λ (k : ℕ). 1 + k) operand.nodes)
        (algebra.fold-Group ℕ depth_step grouping.keys grouping.aggs from.query ∙ ap (λ (k : ℕ). 1 + k) operand.depth)
        operand.next g.rest

    pub order_by-found : (keys : List (PCol × Bool)) (all : List Key) (found : Found) → 0 < length keys → sorting_keys from.columns keys ≡ Ok all → order_by_keys from all ≡ Ok found
        → IsFound here start (1 + n) (1 + d) found
    unfolding order_by_keys
    order_by-found keys all found some sorted is =
        let f = unless (nat_lt 65535 (length all)) TooLarge (Ok (record { query = core.Order all from.query; columns = from.columns; next = from.next })) found is in
        let t = sorting-typed from.columns keys all sorted in
        let few = le-leb (length all) 65535 (ltb-false 65535 (length all) f.passes) in
        let has = lt-ltb 0 (length all) (subst (λ (k : ℕ). 0 < k) (sym t.1) some) in
        let are : are_sorting_keys all (types_of from.columns) ≡ true = λ i. (has i && few i) && t.0 i in
        made here (core.Order all from.query) from.columns from.next start (1 + n) (1 + d) found
        (ap (typed_in here) (algebra.fold-Order RelTyping column_types_step all from.query)
        ∙ ap (option_and_then (λ columns. allowed (are_sorting_keys all columns) columns)) operand.typed
        ∙ ap (λ (b : Bool). allowed b (types_of from.columns)) are)
        operand.wide
        (algebra.fold-Order ℕ nodes_step all from.query ∙ ap (λ (k : ℕ). 1 + k) operand.nodes)
        (algebra.fold-Order ℕ depth_step all from.query ∙ ap (λ (k : ℕ). 1 + k) operand.depth)
        operand.next f.rest

    pub deduped-found : (found : Found) → deduped from ≡ Ok found → IsFound here start (1 + n) (1 + d) found
    unfolding deduped
    deduped-found found is =
        made here (core.Dedup from.query) from.columns from.next start (1 + n) (1 + d) found
        (ap (typed_in here) (algebra.fold-Dedup RelTyping column_types_step from.query) ∙ operand.typed)
        operand.wide
        (algebra.fold-Dedup ℕ nodes_step from.query ∙ ap (λ (k : ℕ). 1 + k) operand.nodes)
        (algebra.fold-Dedup ℕ depth_step from.query ∙ ap (λ (k : ℕ). 1 + k) operand.depth)
        operand.next is

  both_columns : (a b : List NamedColumn) → types_of a ++ (types_of b ++ []) ≡ types_of (a ++ b)
  both_columns a b = ap (λ (ts : List Ty). types_of a ++ ts) (append-nil (types_of b)) ∙ sym (map-append ty_of a b)

  pub joined-found : (e : PExpr) (n m d g : ℕ) (left right found : Found) → IsFound here next n d left → IsFound here left.next m g right → joined known scopes e left right ≡ Ok found
      → IsFound here next (1 + (names.expr_nodes e + (n + m))) (1 + max (names.expr_depth e) (max d g)) found
  unfolding joined joined_by limited
  joined-found e n m d g left right found l r is =
      let columns = left.columns ++ right.columns in
      let f = through (expression e known scopes columns) (λ test. joined_by (side_by_side left right) test) found is in
      let t = expression-typed e known scopes next columns f.first force f.is in
      let h = where_true (same_type Truth f.first.ty) TypeMismatch (limited (core.Join f.first.expr left.query right.query) columns right.next) found f.rest in
      let u = unless (nat_lt 64 (length columns)) TooLarge (Ok (record { query = core.Join f.first.expr left.query right.query; columns = columns; next = right.next })) found h.rest in
      let some : 0 < length columns = (let a = wide_some left.columns l.wide in let b = length-append left.columns right.columns in omega arith) in
      let wide = wide_from columns some (ltb-false 64 (length columns) u.passes) in
      let crossed : cross_types (types_under left.query here ∷ types_under right.query here ∷ []) ≡ Some (types_of columns) =
      (λ i. cross_types (l.typed i ∷ r.typed i ∷ []))
      ∙ ap (λ (ts : List Ty). within_limits (Some ts)) (both_columns left.columns right.columns)
      ∙ ap (λ (b : Bool). allowed b (types_of columns)) wide in
      made here (core.Join f.first.expr left.query right.query) columns right.next next (1 + (names.expr_nodes e + (n + m))) (1 + max (names.expr_depth e) (max d g)) found
      (ap (typed_in here) (algebra.fold-Join RelTyping column_types_step f.first.expr left.query right.query)
      ∙ tested_types here (cross_types (types_under left.query here ∷ types_under right.query here ∷ [])) f.first.expr columns f.first.ty crossed t.typed h.holds)
      wide
      (algebra.fold-Join ℕ nodes_step f.first.expr left.query right.query ∙ (λ i. 1 + (t.nodes i + (l.nodes i + r.nodes i))))
      (algebra.fold-Join ℕ depth_step f.first.expr left.query right.query ∙ (λ i. 1 + max (t.depth i) (max (l.depth i) (r.depth i))))
      (let a = l.next in let b = r.next in omega arith) u.rest

-- a binder whose source and body are well typed
pub record IsBinding (context : Context) (start n m d g : ℕ) (b : Binding) : Type 0 where
  pub source : types_under b.source context ≡ Some (types_of b.columns)
  pub body : types_under b.body.query (extended context b.number (types_of b.columns)) ≡ Some (types_of b.body.columns)
  pub wide : are_columns (types_of b.body.columns) ≡ true
  pub source_nodes : nodes b.source ≡ n
  pub body_nodes : nodes b.body.query ≡ m
  pub source_depth : depth b.source ≡ d
  pub body_depth : depth b.body.query ≡ g
  pub next : start ≤ b.body.next

module _ (context : Context) (start n m d g : ℕ) (b : Binding) (binding : IsBinding context start n m d g b) where
  in_body : (f : List Ty → Option (List Ty)) → (f (types_of b.columns) ≡ types_under b.body.query (extended context b.number (types_of b.columns))) → option_and_then f (types_under b.source context) ≡ Some (types_of b.body.columns)
  in_body f is = ap (option_and_then f) binding.source ∙ is ∙ binding.body

  pub depjoined-found : (found : Found) → depjoined b ≡ Ok found → IsFound context start (1 + (n + m)) (1 + max d g) found
  unfolding depjoined
  depjoined-found found is =
      made context (core.DepJoin b.number b.source b.body.query) b.body.columns b.body.next start (1 + (n + m)) (1 + max d g) found
      (ap (typed_in context) (algebra.fold-DepJoin RelTyping column_types_step b.number b.source b.body.query)
      ∙ in_body (λ columns. types_under b.body.query (extended context b.number columns)) refl)
      binding.wide
      (algebra.fold-DepJoin ℕ nodes_step b.number b.source b.body.query ∙ (λ i. 1 + (binding.source_nodes i + binding.body_nodes i)))
      (algebra.fold-DepJoin ℕ depth_step b.number b.source b.body.query ∙ (λ i. 1 + max (binding.source_depth i) (binding.body_depth i)))
      binding.next is

  pub listed-found : (found : Found) → listed b ≡ Ok found → IsFound context start (1 + (n + m)) (1 + max d g) found
  unfolding listed
  listed-found found is =
      made context (core.List b.number b.source b.body.query) b.body.columns b.body.next start (1 + (n + m)) (1 + max d g) found
      (ap (typed_in context) (algebra.fold-List RelTyping column_types_step b.number b.source b.body.query)
      ∙ in_body (λ columns. types_under b.body.query (extended context b.number columns)) refl)
      binding.wide
      (algebra.fold-List ℕ nodes_step b.number b.source b.body.query ∙ (λ i. 1 + (binding.source_nodes i + binding.body_nodes i)))
      (algebra.fold-List ℕ depth_step b.number b.source b.body.query ∙ (λ i. 1 + max (binding.source_depth i) (binding.body_depth i)))
      binding.next is

module _ (known : Declarations) (scopes : List Scope) (next : ℕ) (force : InForce next scopes) (n m d g : ℕ) (b : Binding) (binding : IsBinding (context_in known scopes) next n m d g b) where
  abbrev outside : Context
  outside = context_in known scopes

  abbrev body_under : List Ty → Option (List Ty)
  body_under columns = types_under b.body.query (extended outside b.number columns)

  pub hashed-found : (es : List PExpr) (keys : IndexKeys) (found : Found) → index_keys known scopes es ≡ Ok keys → hashed b keys ≡ Ok found
      → IsFound outside next (1 + (n + (m + names.all_nodes names.expr_nodes es))) (1 + max d (max g (names.deepest (map names.expr_depth es)))) found
  unfolding hashed
  hashed-found es keys found keyed is =
      let query = core.Hash b.number b.source b.body.query keys.exprs in
      let f = unless (not (is_key_count (length b.columns) (length keys.types))) WrongCount
      (if not (same_types (types_of b.columns) keys.types) then Err TypeMismatch else Ok (record { query = query; columns = b.body.columns; next = b.body.next })) found is in
      let h = unless (not (same_types (types_of b.columns) keys.types)) TypeMismatch (Ok (record { query = query; columns = b.body.columns; next = b.body.next })) found f.rest in
      let counts = right_true (nat_le 1 (length b.columns)) (nat_le (length b.columns) 4 && length b.columns == length keys.types) (true_from_not (is_key_count (length b.columns) (length keys.types)) f.passes) in
      let few = ap (λ (k : ℕ). nat_le k 4) (length-map b.columns ty_of) ∙ left_true (nat_le (length b.columns) 4) (length b.columns == length keys.types) counts in
      let same = true_from_not (same_types (types_of b.columns) keys.types) h.passes in
      let t = keys-typed known scopes next force es keys keyed in
      let are : are_hash_keys (types_of b.columns) (types_of_each keys.exprs [] outside) ≡ true = ap (are_hash_keys (types_of b.columns)) t.typed ∙ (λ i. few i && same i) in
      made outside query b.body.columns b.body.next next (1 + (n + (m + names.all_nodes names.expr_nodes es))) (1 + max d (max g (names.deepest (map names.expr_depth es)))) found
      (ap (typed_in outside) (algebra.fold-Hash RelTyping column_types_step b.number b.source b.body.query keys.exprs)
      ∙ in_body outside next n m d g b binding (λ columns. if are_hash_keys columns (types_of_each keys.exprs [] outside) then body_under columns else None)
      (ap (λ (t : Bool). if t then body_under (types_of b.columns) else None) are))
      binding.wide
      (algebra.fold-Hash ℕ nodes_step b.number b.source b.body.query keys.exprs ∙ (λ i. 1 + (binding.source_nodes i + (binding.body_nodes i + t.nodes i))))
      (algebra.fold-Hash ℕ depth_step b.number b.source b.body.query keys.exprs ∙ (λ i. 1 + max (binding.source_depth i) (max (binding.body_depth i) (t.depth i))))
      binding.next h.rest

  ordered_over : (columns : List NamedColumn) (lo hi : PBound) (range : TypedRange) (found : Found) → b.columns ≡ columns → range_found known scopes lo hi ≡ Ok range → ordered b range columns ≡ Ok found
      → IsFound outside next (1 + (n + (m + (names.bound_nodes lo + names.bound_nodes hi)))) (1 + max d (max g (max (names.bound_depth lo) (names.bound_depth hi)))) found
  unfolding ordered
  ordered_over [] lo hi range found same ends is = absurd cc
  ordered_over (c ∷ e ∷ more) lo hi range found same ends is = absurd cc
  ordered_over (c ∷ []) lo hi range found same ends is =
      let query = core.Ord b.number b.source b.body.query range.lower.bound range.upper.bound in
      let f = where_true (is_bound_of c.ty range.lower && is_bound_of c.ty range.upper) TypeMismatch (Ok (record { query = query; columns = b.body.columns; next = b.body.next })) found is in
      let both = range-typed known scopes next force lo hi range ends in
      let l = both.lower in
      let u = both.upper in
      let low = l.typed c.ty (left_true (is_bound_of c.ty range.lower) (is_bound_of c.ty range.upper) f.holds) in
      let high = u.typed c.ty (right_true (is_bound_of c.ty range.lower) (is_bound_of c.ty range.upper) f.holds) in
      let fits : is_range (types_of b.columns) range.lower.bound range.upper.bound outside ≡ true = ap (λ (cs : List NamedColumn). is_range (types_of cs) range.lower.bound range.upper.bound outside) same ∙ (λ i. low i && high i) in
      made outside query b.body.columns b.body.next next (1 + (n + (m + (names.bound_nodes lo + names.bound_nodes hi)))) (1 + max d (max g (max (names.bound_depth lo) (names.bound_depth hi)))) found
      (ap (typed_in outside) (algebra.fold-Ord RelTyping column_types_step b.number b.source b.body.query range.lower.bound range.upper.bound)
      ∙ in_body outside next n m d g b binding (λ columns. if is_range columns range.lower.bound range.upper.bound outside then body_under columns else None)
      (ap (λ (t : Bool). if t then body_under (types_of b.columns) else None) fits))
      binding.wide
      (algebra.fold-Ord ℕ nodes_step b.number b.source b.body.query range.lower.bound range.upper.bound ∙ (λ i. 1 + (binding.source_nodes i + (binding.body_nodes i + (l.nodes i + u.nodes i)))))
      (algebra.fold-Ord ℕ depth_step b.number b.source b.body.query range.lower.bound range.upper.bound ∙ (λ i. 1 + max (binding.source_depth i) (max (binding.body_depth i) (max (l.depth i) (u.depth i)))))
      binding.next f.rest

  pub ordered-found : (lo hi : PBound) (range : TypedRange) (found : Found) → range_found known scopes lo hi ≡ Ok range → ordered b range b.columns ≡ Ok found
      → IsFound outside next (1 + (n + (m + (names.bound_nodes lo + names.bound_nodes hi)))) (1 + max d (max g (max (names.bound_depth lo) (names.bound_depth hi)))) found
  ordered-found lo hi range found ends is = ordered_over b.columns lo hi range found refl ends is
