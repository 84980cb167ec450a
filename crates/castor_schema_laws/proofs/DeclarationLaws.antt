-- Declarations that aren't refused are within limits, and have names of their own.
use Rattle.std.proofs.Common.{◌≡◌, ◌∙◌, ℕ, ◌+◌, ◌<◌, ◌≤◌, arith, refl, sym, ap, subst, List, [], ◌∷◌, ◌++◌, map, length, Bool, true, false, ◌&&◌, ◌||◌, not, Result, Ok, Err, nat_lt, nat_le}
use Rattle.std.specs.List.{list_all, list_any}
use Rattle.std.specs.Prelude.{if◌then◌else◌}
use Rattle.std.specs.Str.{bytes_eq}
use Rattle.std.proofs.lemmas.Bool.{le-leb, leb-false, lt-ltb, ltb-false}
use Rattle.std.proofs.lemmas.List.{length-append, map_push}
use Rattle.std.proofs.lemmas.List.Folds.{list_all-append}
use Rattle.castor_val.specs.declared.column.Column.{Column}
use Rattle.castor_val.specs.declared.value.Ty.{Ty}
use Rattle.castor_tree.specs.declared.tree.Decl.{Decl}
use Rattle.castor_tree.specs.declared.tree.Decl.TheVariants.{Table, Param}
use Rattle.castor_tree.specs.declared.tree.Word.{Word}
use Rattle.castor_tree.specs.Formed.{has_some, is_column_formed, is_decl_formed, is_word}
use Rattle.castor_names.proofs.Outcomes.{Through, left_true, ok_same, right_true, through, unless}
use Rattle.castor_names.specs.Declarations.{columns_declared, declared, is_column_name, is_table_name, no_declarations, with_column, with_declaration, with_param, with_table, with_table_of}
use Rattle.castor_names.specs.Turns.{and_then, in_order}
use Rattle.castor_names.specs.NameForms.{are_distinct, is_table}
use Rattle.castor_names.specs.declared.table.Declared.{Declared}
use Rattle.castor_names.specs.declared.declarations.Declarations.{Declarations}
use Rattle.castor_names.specs.declared.error.SchemaError.{SchemaError}
use Rattle.castor_names.specs.declared.error.SchemaError.TheVariants.{DuplicateName, TooLarge}

-- neither of two tests passes
neither_left : (a b : Bool) → (a || b) ≡ false → a ≡ false
neither_left true b is = absurd cc
neither_left false b is = refl

neither_right : (a b : Bool) → (a || b) ≡ false → b ≡ false
neither_right true b is = absurd cc
neither_right false b is = is

false_from_not : (b : Bool) → not b ≡ true → b ≡ false
false_from_not true is = absurd cc
false_from_not false is = refl

module _ {X : Type 0} (name : X → List ℕ) where
  none_push : (own : List ℕ) (xs : List X) (x : X) → list_any (bytes_eq own) (map name xs) ≡ false → bytes_eq own (name x) ≡ false → list_any (bytes_eq own) (map name (xs ++ x ∷ [])) ≡ false
  none_push own [] x none other = λ i. other i || false
  none_push own (y ∷ xs) x none other = λ i.
      neither_left (bytes_eq own (name y)) (list_any (bytes_eq own) (map name xs)) none i
      || none_push own xs x (neither_right (bytes_eq own (name y)) (list_any (bytes_eq own) (map name xs)) none) other i

  -- one name more that none before it has
  pub distinct_push : (xs : List X) (x : X) → are_distinct (map name xs) ≡ true → list_any (λ y. bytes_eq (name y) (name x)) xs ≡ false → are_distinct (map name (xs ++ x ∷ [])) ≡ true
  distinct_push [] x are other = refl
  distinct_push (y ∷ xs) x are other =
      let no_more = false_from_not (list_any (bytes_eq (name y)) (map name xs)) (left_true (not (list_any (bytes_eq (name y)) (map name xs))) (are_distinct (map name xs)) are) in
      let none = none_push (name y) xs x no_more (neither_left (bytes_eq (name y) (name x)) (list_any (λ z. bytes_eq (name z) (name x)) xs) other) in
      let rest = distinct_push xs x (right_true (not (list_any (bytes_eq (name y)) (map name xs))) (are_distinct (map name xs)) are) (neither_right (bytes_eq (name y) (name x)) (list_any (λ z. bytes_eq (name z) (name x)) xs) other) in
      λ i. not (none i) && rest i

abbrev column_name : Column → List ℕ
column_name c = c.name

abbrev table_name : Declared → List ℕ
table_name t = t.name

-- the columns of a table so far
columns_named : (columns : List (Word × Ty)) (start all : List Column) → are_distinct (map column_name start) ≡ true → in_order with_column start columns ≡ Ok all
    → (are_distinct (map column_name all) ≡ true) × (length all ≡ length start + length columns)
unfolding with_column
columns_named [] start all are is =
    let e = ok_same _ _ is in
    (subst (λ (cs : List Column). are_distinct (map column_name cs) ≡ true) e are, ap (λ (cs : List Column). length cs) (sym e) ∙ sym (omega arith))
columns_named ((word, type) ∷ columns) start all are is =
    let f = through (with_column start (word, type)) (λ more. in_order with_column more columns) all is in
    let column : Column = record { name = word.text; ty = type } in
    let u = unless (is_column_name start word.text) DuplicateName (Ok (start ++ column ∷ [])) f.first f.is in
    let e : start ++ column ∷ [] ≡ f.first = ok_same _ _ u.rest in
    let more = distinct_push column_name start column are u.passes in
    let rest = columns_named columns f.first all (subst (λ (cs : List Column). are_distinct (map column_name cs) ≡ true) e more) f.rest in
    (rest.0, (let a = rest.1 in let b = ap (λ (cs : List Column). length cs) (sym e) ∙ length-append start (column ∷ []) in omega arith))

-- declarations within limits
pub record AreLimited (known : Declarations) : Type 0 where
  pub few_tables : length known.tables ≤ 16
  pub few_params : length known.params ≤ 16
  pub tables : list_all is_table known.tables ≡ true
  pub table_names : are_distinct (map table_name known.tables) ≡ true
  pub param_names : are_distinct (map column_name known.params) ≡ true

some_declared : (columns : List (Word × Ty)) → has_some columns ≡ true → 0 < length columns
some_declared [] some = absurd cc
some_declared (c ∷ columns) some = omega arith

table_limited : (known more : Declarations) (word : Word) (columns : List (Word × Ty)) → has_some columns ≡ true → AreLimited known → with_table known word columns ≡ Ok more → AreLimited more
unfolding with_table
table_limited known more word columns some are is =
    let u = unless (is_table_name known.tables word.text) DuplicateName (and_then (columns_declared columns) (λ checked. with_table_of known word.text checked)) more is in
    let f = through (columns_declared columns) (λ checked. with_table_of known word.text checked) more u.rest in
    let table : Declared = record { name = word.text; columns = f.first } in
    let v = unless (nat_lt 64 (length f.first) || nat_le 16 (length known.tables)) TooLarge (Ok (record known { tables = known.tables ++ table ∷ [] })) more f.rest in
    let named = columns_named columns [] f.first refl f.is in
    let n = some_declared columns some in
    let count = named.1 in
    let few = ltb-false 64 (length f.first) (neither_left (nat_lt 64 (length f.first)) (nat_le 16 (length known.tables)) v.passes) in
    let room = leb-false 16 (length known.tables) (neither_right (nat_lt 64 (length f.first)) (nat_le 16 (length known.tables)) v.passes) in
    let has : 0 < length f.first = omega arith in
    let is_one : is_table table ≡ true = λ i. (lt-ltb 0 (length f.first) has i && le-leb (length f.first) 64 few i) && named.0 i in
    subst AreLimited (ok_same _ _ v.rest) (record {
      few_tables = (let a = length-append known.tables (table ∷ []) in omega arith);
      few_params = are.few_params;
      tables = list_all-append is_table known.tables (table ∷ []) ∙ (λ i. are.tables i && (is_one i && true));
      table_names = distinct_push table_name known.tables table are.table_names u.passes;
      param_names = are.param_names;
    })

param_limited : (known more : Declarations) (word : Word) (type : Ty) → AreLimited known → with_param known word type ≡ Ok more → AreLimited more
unfolding with_param
param_limited known more word type are is =
    let param : Column = record { name = word.text; ty = type } in
    let u = unless (is_column_name known.params word.text) DuplicateName (if nat_le 16 (length known.params) then Err TooLarge else Ok (record known { params = known.params ++ param ∷ [] })) more is in
    let v = unless (nat_le 16 (length known.params)) TooLarge (Ok (record known { params = known.params ++ param ∷ [] })) more u.rest in
    let room = leb-false 16 (length known.params) v.passes in
    subst AreLimited (ok_same _ _ v.rest) (record {
      few_tables = are.few_tables;
      few_params = (let a = length-append known.params (param ∷ []) in omega arith);
      tables = are.tables;
      table_names = are.table_names;
      param_names = distinct_push column_name known.params param are.param_names u.passes;
    })

one_limited : (known more : Declarations) (decl : Decl) → is_decl_formed decl ≡ true → AreLimited known → with_declaration known decl ≡ Ok more → AreLimited more
unfolding with_declaration
one_limited known more (Table word columns) formed are is =
    table_limited known more word columns
    (left_true (has_some columns) (list_all is_column_formed columns) (right_true (is_word word) (has_some columns && list_all is_column_formed columns) formed)) are is
one_limited known more (Param word type) formed are is = param_limited known more word type are is

all_limited : (decls : List Decl) (known all : Declarations) → list_all is_decl_formed decls ≡ true → AreLimited known → in_order with_declaration known decls ≡ Ok all → AreLimited all
all_limited [] known all formed are is = subst AreLimited (ok_same _ _ is) are
all_limited (decl ∷ decls) known all formed are is =
    let f = through (with_declaration known decl) (λ more. in_order with_declaration more decls) all is in
    all_limited decls f.first all (right_true (is_decl_formed decl) (list_all is_decl_formed decls) formed)
    (one_limited known f.first decl (left_true (is_decl_formed decl) (list_all is_decl_formed decls) formed) are f.is) f.rest

-- the declarations of a formed file, where none is refused
pub declared-limited : (decls : List Decl) (known : Declarations) → list_all is_decl_formed decls ≡ true → declared decls ≡ Ok known → AreLimited known
declared-limited decls known formed is = all_limited decls no_declarations known formed (record { few_tables = omega arith; few_params = omega arith; tables = refl; table_names = refl; param_names = refl }) is
