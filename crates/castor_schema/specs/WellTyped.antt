-- What a checked file promises beyond what it means.
use Rattle.std.specs.Prelude.{◌≡◌, ℕ, ◌≤◌, [], map, length, true, false, ◌&&◌, nat_lt, nat_le, Some}
use Rattle.std.specs.List.{list_all}
use Rattle.castor_val.specs.Limits.{most_columns, most_params, most_tables}
use Rattle.castor_val.specs.declared.column.Column.{Column}
use Rattle.castor_val.specs.Columns.{types_of}
use Rattle.castor_alg.specs.declared.context.Context.{Context}
use Rattle.castor_alg.specs.FreeScopes.{is_free}
use Rattle.castor_alg.specs.Sizes as algebra
use Rattle.castor_alg.specs.Typing.{column_types}
use Rattle.castor_tree.specs.declared.tree.PRel.{PRel}
use Rattle.castor_tree.specs.Sizes as names
use Rattle.castor_names.specs.NameForms.{are_distinct, are_names, is_table, is_table_named}
use Rattle.castor_names.specs.declared.table.Declared.{Declared}
use Rattle.castor_schema.specs.declared.checked.Checked.{Checked}

-- the types of the tables and parameters, and no scope
abbrev pub query_context : Checked → Context
query_context c = record { tables = map (λ (t : Declared). types_of t.columns) c.tables; scopes = []; params = types_of c.params }

-- no scope is read outside of its binder
abbrev pub IsClosed : Checked → Type 0
IsClosed c = (scope : ℕ) → is_free scope c.query ≡ false

-- the query is well typed, and gives columns of these types
abbrev pub IsWellTyped : Checked → Type 0
IsWellTyped c = column_types c.query (query_context c) ≡ Some (types_of c.columns)

-- the query has as many nodes as the tree of names, and its depth
pub record IsAsLarge (tree : PRel) (c : Checked) : Type 0 where
  pub nodes : algebra.nodes c.query ≡ names.nodes tree
  pub depth : algebra.depth c.query ≡ names.depth tree

-- at most 16 tables and 16 parameters, with names of their own, and tables of 1 to 64 columns
pub record AreWithinLimits (c : Checked) : Type 0 where
  pub few_tables : length c.tables ≤ most_tables
  pub few_params : length c.params ≤ most_params
  pub tables : list_all is_table c.tables ≡ true
  pub table_names : are_distinct (map (λ (t : Declared). t.name) c.tables) ≡ true
  pub param_names : are_distinct (map (λ (p : Column). p.name) c.params) ≡ true
  pub columns : (nat_lt 0 (length c.columns) && nat_le (length c.columns) most_columns) ≡ true

-- all names have this form
pub record AreNamed (c : Checked) : Type 0 where
  pub tables : list_all is_table_named c.tables ≡ true
  pub params : are_names c.params ≡ true
  pub columns : are_names c.columns ≡ true
