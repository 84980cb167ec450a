-- What is known of each checked query and its tables.
use Rattle.std.specs.Prelude.{◌≡◌, ◌≤◌, List, length, true, All}
use Rattle.castor_val.specs.Limits.{most_columns, most_params, most_tables}
use Rattle.castor_val.specs.declared.table.Table.{Table}
use Rattle.castor_alg.specs.Fits.{tables_fit}
use Rattle.castor_schema.specs.declared.checked.Checked.{Checked}
use Rattle.castor_names.specs.declared.table.Declared.{Declared}
use Rattle.castor_schema.specs.WellTyped.{AreNamed, AreWithinLimits, IsClosed, IsWellTyped, query_context}

-- the declarations have at most 64 columns each
abbrev pub AreNarrow : List Declared → Type 0
AreNarrow ds = All (λ (d : Declared). length d.columns ≤ most_columns) ds

-- at most 16 tables of at most 64 columns each, and at most 16 parameters
pub record IsSmall (c : Checked) : Type 0 where
  pub tables : length c.tables ≤ most_tables
  pub narrow : AreNarrow c.tables
  pub params : length c.params ≤ most_params

-- the query of a checked one is closed and well typed, over few tables and parameters, and within the limits; its names
-- have their form
pub record IsSound (c : Checked) : Type 0 where
  pub small : IsSmall c
  pub typed : IsWellTyped c
  pub closed : IsClosed c
  pub limits : AreWithinLimits c
  pub named : AreNamed c

-- tables have rows of the types that the declarations give them
abbrev pub TablesFit : Checked → List Table → Type 0
TablesFit c ts = tables_fit ts (query_context c).tables ≡ true
