-- What a formed file that isn't refused is checked to.
use Rattle.std.proofs.Common.{◌≡◌, ◌∙◌, ℕ, refl, sym, ap, subst, List, [], ◌∷◌, map, length, Bool, true, ◌&&◌, Option, Some, None, Result, Ok, nat_lt, nat_le}
use Rattle.std.specs.List.{list_all}
use Rattle.std.specs.Prelude.{if◌then◌else◌}
use Rattle.std.proofs.lemmas.List.{length-map}
use Rattle.castor_val.specs.declared.column.Column.{Column}
use Rattle.castor_val.specs.declared.value.Ty.{Ty}
use Rattle.castor_alg.specs.Typing.{are_columns, column_types, is_context, types_under}
use Rattle.castor_tree.specs.declared.tree.File.{File}
use Rattle.castor_tree.specs.Formed.{IsFormed}
use Rattle.castor_tree.specs.Sizes as names
use Rattle.castor_names.proofs.Outcomes.{Through, left_true, ok_same, right_true, through}
use Rattle.castor_names.specs.Declarations.{declared}
use Rattle.castor_names.specs.Names.{plain_columns, types_of}
use Rattle.castor_names.specs.Turns.{and_then}
use Rattle.castor_names.specs.NameForms.{are_distinct, is_table}
use Rattle.castor_names.specs.declared.table.Declared.{Declared}
use Rattle.castor_names.specs.declared.column.NamedColumn.{NamedColumn}
use Rattle.castor_names.specs.declared.declarations.Declarations.{Declarations}
use Rattle.castor_names.specs.declared.error.SchemaError.{SchemaError}
use Rattle.castor_operators.specs.Relations.{relation}
use Rattle.castor_operators.specs.declared.found.Found.{Found}
use Rattle.castor_schema_laws.proofs.ClosedLaws.{none_read}
use Rattle.castor_schema_laws.proofs.Contexts.{context_in, table_types}
use Rattle.castor_schema_laws.proofs.DeclarationLaws.{AreLimited, declared-limited}
use Rattle.castor_schema_laws.proofs.FoundLaws.{AreKnown, IsFound}
use Rattle.castor_schema_laws.proofs.NamedOutputs.{are_named}
use Rattle.castor_schema_laws.proofs.NamedRelations.{AreDeclaredNamed, declared_named, plain_named, relation_named}
use Rattle.castor_schema_laws.proofs.RelationLaws.{relation-found}
use Rattle.castor_schema.specs.Check.{checked}
use Rattle.castor_val.specs.Columns.{types_of as column_types_of}
use Rattle.castor_schema.specs.WellTyped.{AreNamed, AreWithinLimits, IsAsLarge, IsClosed, IsWellTyped, query_context}
use Rattle.castor_schema.specs.declared.checked.Checked.{Checked}

plain-types : (columns : List NamedColumn) → column_types_of (plain_columns columns) ≡ types_of columns
plain-types [] = refl
plain-types (c ∷ columns) = ap (λ (ts : List Ty). c.ty ∷ ts) (plain-types columns)

table_wide : (t : Declared) → is_table t ≡ true → are_columns (table_types t) ≡ true
table_wide t is =
    ap (λ (n : ℕ). nat_lt 0 n && nat_le n 64) (length-map t.columns (λ (c : Column). c.ty))
    ∙ left_true (nat_lt 0 (length t.columns) && nat_le (length t.columns) 64) (are_distinct (map (λ (c : Column). c.name) t.columns)) is

tables_wide : (tables : List Declared) → list_all is_table tables ≡ true → list_all (λ t. are_columns (table_types t)) tables ≡ true
tables_wide [] are = refl
tables_wide (t ∷ tables) are = λ i. table_wide t (left_true (is_table t) (list_all is_table tables) are) i && tables_wide tables (right_true (is_table t) (list_all is_table tables) are) i

context_wide : (tables : List Declared) → list_all (λ t. are_columns (table_types t)) tables ≡ true → list_all are_columns (map table_types tables) ≡ true
context_wide [] are = refl
context_wide (t ∷ tables) are =
    λ i. left_true (are_columns (table_types t)) (list_all (λ t. are_columns (table_types t)) tables) are i
    && context_wide tables (right_true (are_columns (table_types t)) (list_all (λ t. are_columns (table_types t)) tables) are) i

-- what is promised of an answer
pub record IsSound (file : File) (c : Checked) : Type 0 where
  pub typed : IsWellTyped c
  pub closed : IsClosed c
  pub large : IsAsLarge file.query c
  pub limits : AreWithinLimits c
  pub names : AreNamed c

made_sound : (file : File) (known : Declarations) (found : Found) → AreLimited known → AreDeclaredNamed known → are_named found.columns ≡ true → IsFound (context_in known []) 0 (names.nodes file.query) (names.depth file.query) found
    → IsSound file (record { tables = known.tables; params = known.params; columns = plain_columns found.columns; query = found.query })
made_sound file known found are declared columns is =
    let wide = context_wide known.tables (tables_wide known.tables are.tables) in
    let within : is_context (context_in known []) ≡ true = λ i. wide i && true in
    record {
      typed = ap (λ (b : Bool). if b then types_under found.query (context_in known []) else None) within ∙ is.typed ∙ ap Some (sym (plain-types found.columns));
      closed = λ scope. none_read scope found.query (context_in known []) (types_of found.columns) refl is.typed;
      large = record { nodes = is.nodes; depth = is.depth };
      limits = record {
        few_tables = are.few_tables;
        few_params = are.few_params;
        tables = are.tables;
        table_names = are.table_names;
        param_names = are.param_names;
        columns = ap (λ (n : ℕ). nat_lt 0 n && nat_le n 64) (length-map found.columns (λ (c : NamedColumn). let p : Column = record { name = c.name; ty = c.ty } in p) ∙ sym (length-map found.columns (λ (c : NamedColumn). c.ty))) ∙ is.wide;
      };
      names = record { tables = declared.tables; params = declared.params; columns = plain_named found.columns columns };
    }

pub checked-sound : (file : File) (c : Checked) → IsFormed file → checked file ≡ Ok c → IsSound file c
checked-sound file c formed is =
    let f = through (declared file.decls) (λ (known : Declarations).
    and_then (relation file.query known [] 0) (λ (found : Found). Ok (record { tables = known.tables; params = known.params; columns = plain_columns found.columns; query = found.query }))) c is in
    let g = through (relation file.query f.first [] 0) (λ (found : Found). Ok (record { tables = f.first.tables; params = f.first.params; columns = plain_columns found.columns; query = found.query })) c f.rest in
    let limited = declared-limited file.decls f.first formed.decls f.is in
    let found = relation-found file.query f.first [] 0 g.first (tables_wide f.first.tables limited.tables) tt formed.query g.is in
    let named = declared_named file.decls f.first formed.decls f.is in
    let columns = relation_named file.query f.first [] 0 g.first named refl formed.query g.is in
    subst (IsSound file) (ok_same _ _ g.rest) (made_sound file f.first g.first limited named columns found)
