-- Tables, environments and parameters of the types that a context gives them.
use Rattle.std.specs.Prelude.{◌≡◌, ℕ, List, [], ◌∷◌, Bool, true, false, ◌&&◌, Some}
use Rattle.castor_val.specs.declared.value.Ty.{Ty}
use Rattle.castor_val.specs.declared.row.Row.{Row}
use Rattle.castor_val.specs.declared.table.Table.{Table}
use Rattle.castor_val.specs.Values.{row_fits, table_fits}
use Rattle.castor_alg.specs.declared.context.Context.{Context}
use Rattle.castor_alg.specs.Scopes.{Scopes}
use Rattle.castor_alg.specs.Typing.{scope_types}

-- as many tables, and each of the types at its place
abbrev pub tables_fit : List Table → List (List Ty) → Bool
tables_fit [] [] = true
tables_fit [] (types ∷ all) = false
tables_fit (table ∷ tables) [] = false
tables_fit (table ∷ tables) (types ∷ all) = table_fits table types && tables_fit tables all

-- each scope of the context has a row of its types
abbrev pub ScopesFit : Scopes → List (ℕ × List Ty) → Type 0
ScopesFit env scopes = (k : ℕ) (types : List Ty) → scope_types scopes k ≡ Some types → row_fits (env k) types ≡ true

-- tables, an environment and parameters are what the context says
pub record Fits (context : Context) (tables : List Table) (env : Scopes) (params : Row) : Type 0 where
  pub tables_have_types : tables_fit tables context.tables ≡ true
  pub scopes_have_types : ScopesFit env context.scopes
  pub params_have_types : row_fits params context.params ≡ true
