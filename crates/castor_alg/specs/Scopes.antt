-- Environments: each scope number has a row, and a scope that isn't bound has one of no values.
use Rattle.std.specs.Prelude.{ℕ, ◌==◌, List, [], map, fold, if◌then◌else◌}
use Rattle.castor_val.specs.declared.row.Row.{Row}
use Rattle.castor_val.specs.Values.{value_of}
use Rattle.castor_alg.specs.declared.env.Env.{Env}
use Rattle.castor_alg.specs.declared.env.Env.TheVariants.{Empty, Bind'}

abbrev pub Scopes : Type 0
Scopes = ℕ → Row

-- no scope is bound
abbrev pub unbound : Scopes
unbound k = []

-- the environment with this row for the scope k
abbrev pub bind : Scopes → ℕ → Row → Scopes
bind env k row j = if k == j then row else env j

-- the environment that borrowed bindings stand for
abbrev pub scopes_of : Env → Scopes
scopes_of Empty = unbound
scopes_of (Bind' k row p outer) = bind (scopes_of outer) k (map value_of row.now)

-- the environment that a list of bindings stands for, in which the last binding of a scope holds
abbrev pub scopes_in : List (ℕ × Row) → Scopes
scopes_in bindings = fold (λ env b. bind env b.0 b.1) unbound bindings
