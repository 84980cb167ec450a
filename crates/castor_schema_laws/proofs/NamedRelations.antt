-- The columns of a relation, and all that a file declares, have names of their form.
use Rattle.std.proofs.Common.{◌≡◌, ◌∙◌, ℕ, ◌+◌, ◌<◌, ◌≤◌, arith, refl, sym, ap, subst, List, [], ◌∷◌, ◌++◌, map, length, Bool, true, false, ◌&&◌, ◌||◌, not, Option, Some, None, Result, Ok, Err, slice_get, nat_le, nat_lt, option_and_then, option_map}
use Rattle.std.specs.List.{list_all}
use Rattle.std.specs.Prelude.{if◌then◌else◌, ok_or, position}
use Rattle.std.specs.Str.{bytes_eq}
use Rattle.std.proofs.lemmas.Bool.{ltb-false}
use Rattle.std.proofs.lemmas.List.Folds.{list_all-append}
use Rattle.castor_val.specs.declared.column.Column.{Column}
use Rattle.castor_val.specs.declared.value.Ty.{Ty}
use Rattle.castor_val.specs.declared.value.Ty.TheVariants.{Bool as Truth}
use Rattle.castor_alg.specs.declared.rel.Key.{Key}
use Rattle.castor_alg.specs.declared.rel.Rel.{Rel}
use Rattle.castor_alg.specs.declared.rel.Rel as core
use Rattle.castor_alg.specs.Typing.{same_type, same_types}
use Rattle.castor_tree.specs.declared.tree.Decl.{Decl}
use Rattle.castor_tree.specs.declared.tree.Decl.TheVariants.{Table, Param}
use Rattle.castor_tree.specs.declared.tree.Item.{Item}
use Rattle.castor_tree.specs.declared.tree.PAgg.{PAgg}
use Rattle.castor_tree.specs.declared.tree.PBound.{PBound}
use Rattle.castor_tree.specs.declared.tree.PCol.{PCol}
use Rattle.castor_tree.specs.declared.tree.PExpr.{PExpr}
use Rattle.castor_tree.specs.declared.tree.PRel.{PRel}
use Rattle.castor_tree.specs.declared.tree.PRel as R
use Rattle.castor_tree.specs.declared.tree.Word.{Word}
use Rattle.castor_tree.specs.Formed.{are_true, formed_step, has_some, is_agg_formed, is_bound_formed, is_col, is_column_formed, is_decl_formed, is_expr_formed, is_formed, is_item_formed, is_key_formed, is_word}
use Rattle.castor_names.proofs.Outcomes.{Through, found_as, left_true, ok_same, right_true, through, unless, where_true}
use Rattle.castor_names.specs.Declarations.{columns_declared, declared, is_column_name, is_table_name, no_declarations, with_column, with_declaration, with_param, with_table, with_table_of}
use Rattle.castor_names.specs.Names.{columns_of_table, plain_columns, types_of}
use Rattle.castor_names.specs.Turns.{and_then, in_order}
use Rattle.castor_names.specs.NameForms.{are_names, has_name_form, is_table_named}
use Rattle.castor_names.specs.declared.table.Declared.{Declared}
use Rattle.castor_names.specs.declared.column.NamedColumn.{NamedColumn}
use Rattle.castor_names.specs.declared.declarations.Declarations.{Declarations}
use Rattle.castor_names.specs.declared.error.SchemaError.{SchemaError}
use Rattle.castor_names.specs.declared.error.SchemaError.TheVariants.{DuplicateName, TooLarge, TypeMismatch, UnknownTable, WrongCount}
use Rattle.castor_names.specs.declared.scopes.Scope.{Scope}
use Rattle.castor_exprs.specs.Expressions.{expression}
use Rattle.castor_exprs.specs.Groups.{grouping_found, sorting_keys, sums_ints}
use Rattle.castor_exprs.specs.Items.{item_output, items_selected}
use Rattle.castor_exprs.specs.Bounds.{is_bound_of, range_found}
use Rattle.castor_exprs.specs.Indexes.{index_keys, is_key_count}
use Rattle.castor_exprs.specs.declared.bounds.TypedRange.{TypedRange}
use Rattle.castor_exprs.specs.declared.expression.Typed.{Typed}
use Rattle.castor_exprs.specs.declared.groups.Grouping.{Grouping}
use Rattle.castor_exprs.specs.declared.indexes.IndexKeys.{IndexKeys}
use Rattle.castor_exprs.specs.declared.items.Output.{Output}
use Rattle.castor_exprs.specs.declared.items.Selection.{Selection}
use Rattle.castor_operators.proofs.RelInduction.{RelCases, With, fold-Concat, fold-Cross, fold-Dedup, fold-DepJoin, fold-Filter, fold-Group, fold-Hash, fold-Join, fold-List, fold-Ord, fold-Order, fold-Scalar, fold-Select, fold-Table, rel_induction, relations}
use Rattle.castor_operators.specs.Operators.{concatenated, deduped, depjoined, filtered, filtered_by, first_columns, grouped, grouped_by, hashed, hashed_by, is_no_grouping, joined, joined_by, limited, listed, order_by, order_by_keys, ordered, ordered_by, same_column_types, same_widths, scalar_found, scalar_of, selected, side_by_side, summed_by, table_found}
use Rattle.castor_operators.specs.Relations.{Finding, binding_of, bound_over, relation, relation_step, scope_over, with_crossed, with_operand}
use Rattle.castor_operators.specs.declared.found.Found.{Found}
use Rattle.castor_operators.specs.declared.binders.Binding.{Binding}
use Rattle.castor_operators.specs.declared.operands.Crossing.{Crossing}
use Rattle.castor_operators.specs.declared.operands.Operands.{Operands}
use Rattle.castor_schema_laws.proofs.NameLaws.{word_named}
use Rattle.castor_schema_laws.proofs.NamedOutputs.{are_named, are_scopes_named, grouping_named, items_named, output_named, place_passes}

-- all declared names have their form
pub record AreDeclaredNamed (known : Declarations) : Type 0 where
  pub tables : list_all is_table_named known.tables ≡ true
  pub params : are_names known.params ≡ true

-- what holds of each relation
abbrev Named : PRel → Type 0
Named q = (known : Declarations) (scopes : List Scope) (next : ℕ) (found : Found) → AreDeclaredNamed known → are_scopes_named scopes ≡ true → is_formed q ≡ true → relation q known scopes next ≡ Ok found → are_named found.columns ≡ true

abbrev meaning : Declarations → List Scope → ℕ → Finding → Result Found SchemaError
meaning known scopes next m = m known scopes next

-- what an operator gives
given : (query : Rel) (columns : List NamedColumn) (next : ℕ) (found : Found) → found_as SchemaError (record { query = query; columns = columns; next = next }) ≡ Ok found → are_named columns ≡ true → are_named found.columns ≡ true
given query columns next found is are = subst (λ (f : Found). are_named f.columns ≡ true) (ok_same _ _ is) are

record IsLimited (columns : List NamedColumn) (found : Found) : Type 0 where
  few : length columns ≤ 64
  named : are_named columns ≡ true → are_named found.columns ≡ true

given_limited : (query : Rel) (columns : List NamedColumn) (next : ℕ) (found : Found) → limited query columns next ≡ Ok found → IsLimited columns found
unfolding limited
given_limited query columns next found is =
    let f = unless (nat_lt 64 (length columns)) TooLarge (Ok (record { query = query; columns = columns; next = next })) found is in
    record { few = ltb-false 64 (length columns) f.passes; named = λ are. given query columns next found f.rest are }

append_named : (a b : List NamedColumn) → are_named a ≡ true → are_named b ≡ true → are_named (a ++ b) ≡ true
append_named a b left right = list_all-append (λ (c : NamedColumn). has_name_form c.name) a b ∙ (λ i. left i && right i)

-- tables
table_columns_named : (name : List ℕ) (columns : List Column) → are_names columns ≡ true → are_named (map (λ (c : Column). let n : NamedColumn = record { name = c.name; qualifier = Some name; ty = c.ty } in n) columns) ≡ true
table_columns_named name [] are = refl
table_columns_named name (c ∷ columns) are = λ i. left_true (has_name_form c.name) (are_names columns) are i && table_columns_named name columns (right_true (has_name_form c.name) (are_names columns) are) i

table_at : (tables : List Declared) (next number : ℕ) (o : Option Declared) (found : Found) → list_all is_table_named tables ≡ true → slice_get tables number ≡ o
    → ok_or (option_map (λ (t : Declared). let f : Found = record { query = core.Table number; columns = columns_of_table t; next = next } in f) o) UnknownTable ≡ Ok found → are_named found.columns ≡ true
table_at tables next number None found are at is = absurd cc
table_at tables next number (Some t) found are at is =
    let named = place_passes is_table_named tables number t are at in
    given (core.Table number) (columns_of_table t) next found is (table_columns_named t.name t.columns (right_true (has_name_form t.name) (are_names t.columns) named))

table_by : (tables : List Declared) (next : ℕ) (o : Option ℕ) (found : Found) → list_all is_table_named tables ≡ true
    → ok_or (option_and_then (λ number. option_map (λ (t : Declared). let f : Found = record { query = core.Table number; columns = columns_of_table t; next = next } in f) (slice_get tables number)) o) UnknownTable ≡ Ok found → are_named found.columns ≡ true
table_by tables next None found are is = absurd cc
table_by tables next (Some number) found are is = table_at tables next number (slice_get tables number) found are refl is

table_named : (w : Word) → Named (R.Table w)
unfolding table_found
table_named w known scopes next found are inside formed is =
    table_by known.tables next (position (λ (t : Declared). bytes_eq t.name w.text) known.tables) found are.tables (sym (ap (meaning known scopes next) (fold-Table Finding relation_step w)) ∙ is)

scalar_named : (item : Item) → Named (R.Scalar item)
unfolding scalar_found scalar_of
scalar_named item known scopes next found are inside formed is =
    let f = through (item_output known scopes [] 0 item) (λ output. scalar_of next output) found (sym (ap (meaning known scopes next) (fold-Scalar Finding relation_step item)) ∙ is) in
    let one = output_named known scopes inside [] refl 0 item f.first (sym (fold-Scalar Bool formed_step item) ∙ formed) (omega arith) f.is in
    given (core.Scalar f.first.expr) (f.first.column ∷ []) next found f.rest (λ i. one i && true)

-- the operands of a cross and of a concat
crossed_named : (known : Declarations) (scopes : List Scope) (are : AreDeclaredNamed known) (inside : are_scopes_named scopes ≡ true) (rs : List (With Named)) (start all : Crossing) → are_true (map is_formed (relations rs)) ≡ true
    → are_named start.columns ≡ true → in_order (with_crossed known scopes) start (map relation (relations rs)) ≡ Ok all → are_named all.columns ≡ true
unfolding with_crossed
crossed_named known scopes are inside [] start all formed so_far is = subst (λ (c : Crossing). are_named c.columns ≡ true) (ok_same _ _ is) so_far
crossed_named known scopes are inside (r ∷ rs) start all formed so_far is =
    let f = through (with_crossed known scopes start (relation r.0)) (λ more. in_order (with_crossed known scopes) more (map relation (relations rs))) all is in
    let g = through (relation r.0 known scopes start.next) (λ (found : Found). Ok (record { queries = start.queries ++ found.query ∷ []; columns = start.columns ++ found.columns; next = found.next })) f.first f.is in
    let e : record { queries = start.queries ++ g.first.query ∷ []; columns = start.columns ++ g.first.columns; next = g.first.next } ≡ f.first = ok_same _ _ g.rest in
    let one = r.1 known scopes start.next g.first are inside (left_true (is_formed r.0) (are_true (map is_formed (relations rs))) formed) g.is in
    crossed_named known scopes are inside rs f.first all (right_true (is_formed r.0) (are_true (map is_formed (relations rs))) formed)
    (subst (λ (c : Crossing). are_named c.columns ≡ true) e (append_named start.columns g.first.columns so_far one)) f.rest

cross_named : (rs : List (With Named)) → Named (R.Cross (relations rs))
cross_named rs known scopes next found are inside formed is =
    let ps = relations rs in
    let f = through (in_order (with_crossed known scopes) (record { queries = []; columns = []; next = next }) (map relation ps)) (λ (all : Crossing). limited (core.Cross all.queries) all.columns all.next) found
    (sym (ap (meaning known scopes next) (fold-Cross Finding relation_step ps)) ∙ is) in
    let parts = right_true (has_some (map is_formed ps)) (are_true (map is_formed ps)) (sym (fold-Cross Bool formed_step ps) ∙ formed) in
    (given_limited (core.Cross f.first.queries) f.first.columns f.first.next found f.rest).named (crossed_named known scopes are inside rs (record { queries = []; columns = []; next = next }) f.first parts refl f.is)

operands_named : (known : Declarations) (scopes : List Scope) (are : AreDeclaredNamed known) (inside : are_scopes_named scopes ≡ true) (rs : List (With Named)) (start all : Operands) → are_true (map is_formed (relations rs)) ≡ true
    → list_all are_named start.columns ≡ true → in_order (with_operand known scopes) start (map relation (relations rs)) ≡ Ok all → list_all are_named all.columns ≡ true
unfolding with_operand
operands_named known scopes are inside [] start all formed so_far is = subst (λ (c : Operands). list_all are_named c.columns ≡ true) (ok_same _ _ is) so_far
operands_named known scopes are inside (r ∷ rs) start all formed so_far is =
    let f = through (with_operand known scopes start (relation r.0)) (λ more. in_order (with_operand known scopes) more (map relation (relations rs))) all is in
    let g = through (relation r.0 known scopes start.next) (λ (found : Found). Ok (record { queries = start.queries ++ found.query ∷ []; columns = start.columns ++ found.columns ∷ []; next = found.next })) f.first f.is in
    let e : record { queries = start.queries ++ g.first.query ∷ []; columns = start.columns ++ g.first.columns ∷ []; next = g.first.next } ≡ f.first = ok_same _ _ g.rest in
    let one = r.1 known scopes start.next g.first are inside (left_true (is_formed r.0) (are_true (map is_formed (relations rs))) formed) g.is in
    operands_named known scopes are inside rs f.first all (right_true (is_formed r.0) (are_true (map is_formed (relations rs))) formed)
    (subst (λ (c : Operands). list_all are_named c.columns ≡ true) e (list_all-append are_named start.columns (g.first.columns ∷ []) ∙ (λ i. so_far i && (one i && true)))) f.rest

first_named : (columns : List (List NamedColumn)) → list_all are_named columns ≡ true → are_named (first_columns columns) ≡ true
first_named [] are = refl
first_named (c ∷ columns) are = left_true (are_named c) (list_all are_named columns) are

concat_named : (rs : List (With Named)) → Named (R.Concat (relations rs))
unfolding concatenated
concat_named rs known scopes next found are inside formed is =
    let ps = relations rs in
    let f = through (in_order (with_operand known scopes) (record { queries = []; columns = []; next = next }) (map relation ps)) (λ (all : Operands). concatenated all) found
    (sym (ap (meaning known scopes next) (fold-Concat Finding relation_step ps)) ∙ is) in
    let parts = right_true (has_some (map is_formed ps)) (are_true (map is_formed ps)) (sym (fold-Concat Bool formed_step ps) ∙ formed) in
    let g = unless (not (same_widths f.first.columns)) WrongCount
    (if not (same_column_types f.first.columns) then Err TypeMismatch else Ok (record { query = core.Concat f.first.queries; columns = first_columns f.first.columns; next = f.first.next })) found f.rest in
    let h = unless (not (same_column_types f.first.columns)) TypeMismatch (Ok (record { query = core.Concat f.first.queries; columns = first_columns f.first.columns; next = f.first.next })) found g.rest in
    given (core.Concat f.first.queries) (first_columns f.first.columns) f.first.next found h.rest
    (first_named f.first.columns (operands_named known scopes are inside rs (record { queries = []; columns = []; next = next }) f.first parts refl f.is))

select_named : (items : List Item) (r : PRel) → Named r → Named (R.Select items r)
unfolding selected
select_named items r nr known scopes next found are inside formed is =
    let f = through (relation r known scopes next) (λ from. selected known scopes items from) found (sym (ap (meaning known scopes next) (fold-Select Finding relation_step items r)) ∙ is) in
    let g = through (items_selected known scopes f.first.columns items) (λ (all : Selection). limited (core.Select all.exprs f.first.query) all.columns f.first.next) found f.rest in
    let parts = right_true (has_some items) (list_all is_item_formed items && is_formed r) (sym (fold-Select Bool formed_step items r) ∙ formed) in
    let from = nr known scopes next f.first are inside (right_true (list_all is_item_formed items) (is_formed r) parts) f.is in
    let l = given_limited (core.Select g.first.exprs f.first.query) g.first.columns f.first.next found g.rest in
    l.named (items_named known scopes inside f.first.columns from items g.first (left_true (list_all is_item_formed items) (is_formed r) parts) l.few g.is)

filter_named : (e : PExpr) (r : PRel) → Named r → Named (R.Filter e r)
unfolding filtered filtered_by
filter_named e r nr known scopes next found are inside formed is =
    let f = through (relation r known scopes next) (λ from. filtered known scopes e from) found (sym (ap (meaning known scopes next) (fold-Filter Finding relation_step e r)) ∙ is) in
    let g = through (expression e known scopes f.first.columns) (λ test. filtered_by f.first test) found f.rest in
    let h = where_true (same_type Truth g.first.ty) TypeMismatch (Ok (record { query = core.Filter g.first.expr f.first.query; columns = f.first.columns; next = f.first.next })) found g.rest in
    given (core.Filter g.first.expr f.first.query) f.first.columns f.first.next found h.rest
    (nr known scopes next f.first are inside (right_true (is_expr_formed e) (is_formed r) (sym (fold-Filter Bool formed_step e r) ∙ formed)) f.is)

join_named : (e : PExpr) (r s : PRel) → Named r → Named s → Named (R.Join e r s)
unfolding joined joined_by
join_named e r s nr ns known scopes next found are inside formed is =
    let f = through (relation r known scopes next) (λ (left : Found). and_then (relation s known scopes left.next) (λ right. joined known scopes e left right)) found
    (sym (ap (meaning known scopes next) (fold-Join Finding relation_step e r s)) ∙ is) in
    let g = through (relation s known scopes f.first.next) (λ right. joined known scopes e f.first right) found f.rest in
    let columns = f.first.columns ++ g.first.columns in
    let h = through (expression e known scopes columns) (λ test. joined_by (side_by_side f.first g.first) test) found g.rest in
    let t = where_true (same_type Truth h.first.ty) TypeMismatch (limited (core.Join h.first.expr f.first.query g.first.query) columns g.first.next) found h.rest in
    let parts = right_true (is_expr_formed e) (is_formed r && is_formed s) (sym (fold-Join Bool formed_step e r s) ∙ formed) in
    (given_limited (core.Join h.first.expr f.first.query g.first.query) columns g.first.next found t.rest).named
    (append_named f.first.columns g.first.columns
    (nr known scopes next f.first are inside (left_true (is_formed r) (is_formed s) parts) f.is)
    (ns known scopes f.first.next g.first are inside (right_true (is_formed r) (is_formed s) parts) g.is))

-- a binder
body_named : (r s : PRel) (name : List ℕ) (known : Declarations) (scopes : List Scope) (next : ℕ) (from : Found) (b : Binding) → Named r → Named s → AreDeclaredNamed known → are_scopes_named scopes ≡ true → is_formed r ≡ true → is_formed s ≡ true
    → relation r known scopes (next + 1) ≡ Ok from → bound_over (relation s) name known scopes next from ≡ Ok b → are_named b.body.columns ≡ true
unfolding bound_over binding_of
body_named r s name known scopes next from b nr ns are inside formed_r formed_s is_from is =
    let g = through (relation s known (scope_over next name from ∷ scopes) from.next) (λ body. binding_of (scope_over next name from) from.query body) b is in
    let source = nr known scopes (next + 1) from are inside formed_r is_from in
    let body = ns known (scope_over next name from ∷ scopes) from.next g.first are (λ i. source i && inside i) formed_s g.is in
    let e : record { number = next; source = from.query; columns = from.columns; body = g.first } ≡ b = ok_same _ _ g.rest in
    subst (λ (b : Binding). are_named b.body.columns ≡ true) e body

depjoin_named : (w : Word) (r s : PRel) → Named r → Named s → Named (R.DepJoin w r s)
unfolding depjoined
depjoin_named w r s nr ns known scopes next found are inside formed is =
    let a = through (relation r known scopes (next + 1)) (λ from. and_then (bound_over (relation s) w.text known scopes next from) (λ binding. depjoined binding)) found
    (sym (ap (meaning known scopes next) (fold-DepJoin Finding relation_step w r s)) ∙ is) in
    let f = through (bound_over (relation s) w.text known scopes next a.first) (λ binding. depjoined binding) found a.rest in
    let parts = right_true (is_word w) (is_formed r && is_formed s) (sym (fold-DepJoin Bool formed_step w r s) ∙ formed) in
    given (core.DepJoin f.first.number f.first.source f.first.body.query) f.first.body.columns f.first.body.next found f.rest
    (body_named r s w.text known scopes next a.first f.first nr ns are inside (left_true (is_formed r) (is_formed s) parts) (right_true (is_formed r) (is_formed s) parts) a.is f.is)

list_named : (w : Word) (r s : PRel) → Named r → Named s → Named (R.List w r s)
unfolding listed
list_named w r s nr ns known scopes next found are inside formed is =
    let a = through (relation r known scopes (next + 1)) (λ from. and_then (bound_over (relation s) w.text known scopes next from) (λ binding. listed binding)) found
    (sym (ap (meaning known scopes next) (fold-List Finding relation_step w r s)) ∙ is) in
    let f = through (bound_over (relation s) w.text known scopes next a.first) (λ binding. listed binding) found a.rest in
    let parts = right_true (is_word w) (is_formed r && is_formed s) (sym (fold-List Bool formed_step w r s) ∙ formed) in
    given (core.List f.first.number f.first.source f.first.body.query) f.first.body.columns f.first.body.next found f.rest
    (body_named r s w.text known scopes next a.first f.first nr ns are inside (left_true (is_formed r) (is_formed s) parts) (right_true (is_formed r) (is_formed s) parts) a.is f.is)

hash_named : (w : Word) (r s : PRel) (es : List PExpr) → Named r → Named s → Named (R.Hash w r s es)
unfolding hashed_by hashed
hash_named w r s es nr ns known scopes next found are inside formed is =
    let a = through (relation r known scopes (next + 1)) (λ from. and_then (bound_over (relation s) w.text known scopes next from) (λ binding. hashed_by known scopes es binding)) found
    (sym (ap (meaning known scopes next) (fold-Hash Finding relation_step w r s es)) ∙ is) in
    let f = through (bound_over (relation s) w.text known scopes next a.first) (λ binding. hashed_by known scopes es binding) found a.rest in
    let g = through (index_keys known scopes es) (λ keys. hashed f.first keys) found f.rest in
    let query = core.Hash f.first.number f.first.source f.first.body.query g.first.exprs in
    let h = unless (not (is_key_count (length f.first.columns) (length g.first.types))) WrongCount
    (if not (same_types (types_of f.first.columns) g.first.types) then Err TypeMismatch else Ok (record { query = query; columns = f.first.body.columns; next = f.first.body.next })) found g.rest in
    let t = unless (not (same_types (types_of f.first.columns) g.first.types)) TypeMismatch (Ok (record { query = query; columns = f.first.body.columns; next = f.first.body.next })) found h.rest in
    let after = is_formed s && (has_some es && list_all is_expr_formed es) in
    let parts = right_true (is_word w) (is_formed r && after) (sym (fold-Hash Bool formed_step w r s es) ∙ formed) in
    given query f.first.body.columns f.first.body.next found t.rest
    (body_named r s w.text known scopes next a.first f.first nr ns are inside (left_true (is_formed r) after parts)
    (left_true (is_formed s) (has_some es && list_all is_expr_formed es) (right_true (is_formed r) after parts)) a.is f.is)

ordered_index_named : (b : Binding) (range : TypedRange) (columns : List NamedColumn) (found : Found) → ordered b range columns ≡ Ok found → are_named b.body.columns ≡ true → are_named found.columns ≡ true
unfolding ordered
ordered_index_named b range [] found is are = absurd cc
ordered_index_named b range (c ∷ d ∷ more) found is are = absurd cc
ordered_index_named b range (c ∷ []) found is are =
    let query = core.Ord b.number b.source b.body.query range.lower.bound range.upper.bound in
    let f = where_true (is_bound_of c.ty range.lower && is_bound_of c.ty range.upper) TypeMismatch (Ok (record { query = query; columns = b.body.columns; next = b.body.next })) found is in
    given query b.body.columns b.body.next found f.rest are

ordered_named : (w : Word) (r s : PRel) (lo hi : PBound) → Named r → Named s → Named (R.Ord w r s lo hi)
unfolding ordered_by
ordered_named w r s lo hi nr ns known scopes next found are inside formed is =
    let a = through (relation r known scopes (next + 1)) (λ from. and_then (bound_over (relation s) w.text known scopes next from) (λ binding. ordered_by known scopes lo hi binding)) found
    (sym (ap (meaning known scopes next) (fold-Ord Finding relation_step w r s lo hi)) ∙ is) in
    let f = through (bound_over (relation s) w.text known scopes next a.first) (λ binding. ordered_by known scopes lo hi binding) found a.rest in
    let g = through (range_found known scopes lo hi) (λ range. ordered f.first range f.first.columns) found f.rest in
    let after = is_formed s && (is_bound_formed lo && is_bound_formed hi) in
    let parts = right_true (is_word w) (is_formed r && after) (sym (fold-Ord Bool formed_step w r s lo hi) ∙ formed) in
    ordered_index_named f.first g.first f.first.columns found g.rest
    (body_named r s w.text known scopes next a.first f.first nr ns are inside (left_true (is_formed r) after parts)
    (left_true (is_formed s) (is_bound_formed lo && is_bound_formed hi) (right_true (is_formed r) after parts)) a.is f.is)

group_named : (keys : List PCol) (aggs : List (PAgg × Option Word)) (r : PRel) → Named r → Named (R.Group keys aggs r)
unfolding grouped grouped_by summed_by
group_named keys aggs r nr known scopes next found are inside formed is =
    let f = through (relation r known scopes next) (λ from. grouped keys aggs from) found
    (sym (ap (meaning known scopes next) (fold-Group Finding relation_step keys aggs r)) ∙ is) in
    let g = through (grouping_found f.first.columns keys aggs) (λ grouping. grouped_by f.first grouping) found f.rest in
    let query = core.Group g.first.keys g.first.aggs f.first.query in
    let h = unless (is_no_grouping g.first.keys g.first.aggs) WrongCount (summed_by f.first g.first) found g.rest in
    let t = where_true (list_all (sums_ints f.first.columns) g.first.aggs) TypeMismatch (limited query g.first.columns f.first.next) found h.rest in
    let l = given_limited query g.first.columns f.first.next found t.rest in
    let parts = right_true (list_all is_col keys) (list_all is_agg_formed aggs && is_formed r) (sym (fold-Group Bool formed_step keys aggs r) ∙ formed) in
    let from = nr known scopes next f.first are inside (right_true (list_all is_agg_formed aggs) (is_formed r) parts) f.is in
    l.named (grouping_named f.first.columns from keys aggs g.first (left_true (list_all is_agg_formed aggs) (is_formed r) parts) l.few g.is)

order_named : (keys : List (PCol × Bool)) (r : PRel) → Named r → Named (R.Order keys r)
unfolding order_by order_by_keys
order_named keys r nr known scopes next found are inside formed is =
    let f = through (relation r known scopes next) (λ from. order_by keys from) found
    (sym (ap (meaning known scopes next) (fold-Order Finding relation_step keys r)) ∙ is) in
    let g = through (sorting_keys f.first.columns keys) (λ all. order_by_keys f.first all) found f.rest in
    let h = unless (nat_lt 65535 (length g.first)) TooLarge (Ok (record { query = core.Order g.first f.first.query; columns = f.first.columns; next = f.first.next })) found g.rest in
    let parts = right_true (has_some keys) (list_all is_key_formed keys && is_formed r) (sym (fold-Order Bool formed_step keys r) ∙ formed) in
    given (core.Order g.first f.first.query) f.first.columns f.first.next found h.rest
    (nr known scopes next f.first are inside (right_true (list_all is_key_formed keys) (is_formed r) parts) f.is)

dedup_named : (r : PRel) → Named r → Named (R.Dedup r)
unfolding deduped
dedup_named r nr known scopes next found are inside formed is =
    let f = through (relation r known scopes next) (λ from. deduped from) found (sym (ap (meaning known scopes next) (fold-Dedup Finding relation_step r)) ∙ is) in
    given (core.Dedup f.first.query) f.first.columns f.first.next found f.rest (nr known scopes next f.first are inside (sym (fold-Dedup Bool formed_step r) ∙ formed) f.is)

pub relation_named : (q : PRel) → Named q
relation_named = rel_induction Named (record {
  table = table_named;
  scalar = scalar_named;
  cross = cross_named;
  concat = concat_named;
  select = select_named;
  filter = filter_named;
  join = join_named;
  depjoin = depjoin_named;
  list = list_named;
  hash = hash_named;
  ordered = ordered_named;
  group = group_named;
  order = order_named;
  dedup = dedup_named;
})

-- the columns of an answer
pub plain_named : (columns : List NamedColumn) → are_named columns ≡ true → are_names (plain_columns columns) ≡ true
plain_named [] are = refl
plain_named (c ∷ columns) are = λ i. left_true (has_name_form c.name) (are_named columns) are i && plain_named columns (right_true (has_name_form c.name) (are_named columns) are) i

-- declarations
columns_declared_named : (columns : List (Word × Ty)) (start all : List Column) → list_all is_column_formed columns ≡ true → are_names start ≡ true → in_order with_column start columns ≡ Ok all → are_names all ≡ true
unfolding with_column
columns_declared_named [] start all formed so_far is = subst (λ (cs : List Column). are_names cs ≡ true) (ok_same _ _ is) so_far
columns_declared_named ((word, type) ∷ columns) start all formed so_far is =
    let f = through (with_column start (word, type)) (λ more. in_order with_column more columns) all is in
    let column : Column = record { name = word.text; ty = type } in
    let u = unless (is_column_name start word.text) DuplicateName (Ok (start ++ column ∷ [])) f.first f.is in
    let e : start ++ column ∷ [] ≡ f.first = ok_same _ _ u.rest in
    let one = word_named word (left_true (is_word word) (list_all is_column_formed columns) formed) in
    columns_declared_named columns f.first all (right_true (is_word word) (list_all is_column_formed columns) formed)
    (subst (λ (cs : List Column). are_names cs ≡ true) e (list_all-append (λ (c : Column). has_name_form c.name) start (column ∷ []) ∙ (λ i. so_far i && (one i && true)))) f.rest

table_declared_named : (known more : Declarations) (word : Word) (columns : List (Word × Ty)) → is_word word ≡ true → list_all is_column_formed columns ≡ true → AreDeclaredNamed known → with_table known word columns ≡ Ok more → AreDeclaredNamed more
unfolding with_table
table_declared_named known more word columns formed_name formed are is =
    let u = unless (is_table_name known.tables word.text) DuplicateName (and_then (columns_declared columns) (λ checked. with_table_of known word.text checked)) more is in
    let f = through (columns_declared columns) (λ checked. with_table_of known word.text checked) more u.rest in
    let table : Declared = record { name = word.text; columns = f.first } in
    let v = unless (nat_lt 64 (length f.first) || nat_le 16 (length known.tables)) TooLarge (Ok (record known { tables = known.tables ++ table ∷ [] })) more f.rest in
    let name = word_named word formed_name in
    let named = columns_declared_named columns [] f.first formed refl f.is in
    subst AreDeclaredNamed (ok_same _ _ v.rest) (record {
      tables = list_all-append is_table_named known.tables (table ∷ []) ∙ (λ i. are.tables i && ((name i && named i) && true));
      params = are.params;
    })

param_declared_named : (known more : Declarations) (word : Word) (type : Ty) → is_word word ≡ true → AreDeclaredNamed known → with_param known word type ≡ Ok more → AreDeclaredNamed more
unfolding with_param
param_declared_named known more word type formed are is =
    let param : Column = record { name = word.text; ty = type } in
    let u = unless (is_column_name known.params word.text) DuplicateName (if nat_le 16 (length known.params) then Err TooLarge else Ok (record known { params = known.params ++ param ∷ [] })) more is in
    let v = unless (nat_le 16 (length known.params)) TooLarge (Ok (record known { params = known.params ++ param ∷ [] })) more u.rest in
    let name = word_named word formed in
    subst AreDeclaredNamed (ok_same _ _ v.rest) (record {
      tables = are.tables;
      params = list_all-append (λ (c : Column). has_name_form c.name) known.params (param ∷ []) ∙ (λ i. are.params i && (name i && true));
    })

one_declared_named : (known more : Declarations) (decl : Decl) → is_decl_formed decl ≡ true → AreDeclaredNamed known → with_declaration known decl ≡ Ok more → AreDeclaredNamed more
unfolding with_declaration
one_declared_named known more (Table word columns) formed are is =
    let parts = right_true (is_word word) (has_some columns && list_all is_column_formed columns) formed in
    table_declared_named known more word columns (left_true (is_word word) (has_some columns && list_all is_column_formed columns) formed) (right_true (has_some columns) (list_all is_column_formed columns) parts) are is
one_declared_named known more (Param word type) formed are is = param_declared_named known more word type formed are is

all_declared_named : (decls : List Decl) (known all : Declarations) → list_all is_decl_formed decls ≡ true → AreDeclaredNamed known → in_order with_declaration known decls ≡ Ok all → AreDeclaredNamed all
all_declared_named [] known all formed are is = subst AreDeclaredNamed (ok_same _ _ is) are
all_declared_named (decl ∷ decls) known all formed are is =
    let f = through (with_declaration known decl) (λ more. in_order with_declaration more decls) all is in
    all_declared_named decls f.first all (right_true (is_decl_formed decl) (list_all is_decl_formed decls) formed)
    (one_declared_named known f.first decl (left_true (is_decl_formed decl) (list_all is_decl_formed decls) formed) are f.is) f.rest

pub declared_named : (decls : List Decl) (known : Declarations) → list_all is_decl_formed decls ≡ true → declared decls ≡ Ok known → AreDeclaredNamed known
declared_named decls known formed is = all_declared_named decls no_declarations known formed (record { tables = refl; params = refl }) is
