-- The scopes in force.
use Rattle.std.specs.Prelude.{ℕ, ◌==◌, List, [], ◌∷◌, Option, find, slice_get, option_and_then}
use Rattle.std.specs.Str.{bytes_eq}
use Rattle.castor_names.specs.declared.column.NamedColumn.{NamedColumn}
use Rattle.castor_names.specs.declared.scopes.Scope.{Scope}
use Rattle.castor_names.specs.declared.scopes.Scopes.{Scopes}
use Rattle.castor_names.specs.declared.scopes.Scopes.TheVariants.{NoScope, Inner'}

-- the scopes in force, the innermost first
abbrev pub scopes_of : Scopes → List Scope
scopes_of NoScope = []
scopes_of (Inner' scope p outer) = scope.now ∷ scopes_of outer

-- the innermost scope of a name
abbrev pub innermost : List Scope → List ℕ → Option Scope
innermost scopes name = find (λ (s : Scope). bytes_eq s.name name) scopes

-- a column of the scope with a number
abbrev pub scope_column : List Scope → ℕ → ℕ → Option NamedColumn
scope_column scopes number at = option_and_then (λ (s : Scope). slice_get s.columns at) (find (λ (s : Scope). s.number == number) scopes)
