-- When two relations may stand for each other under a context.
use Rattle.std.specs.Prelude.{◌≡◌, List}
use Rattle.castor_val.specs.declared.row.Row.{Row}
use Rattle.castor_val.specs.declared.table.Table.{Table}
use Rattle.castor_alg.specs.declared.context.Context.{Context}
use Rattle.castor_alg.specs.declared.rel.Rel.{Rel}
use Rattle.castor_alg.specs.Fits.{Fits}
use Rattle.castor_alg.specs.Meaning.{meaning}
use Rattle.castor_alg.specs.Permutation.{SameUpToOrder}
use Rattle.castor_alg.specs.Scopes.{Scopes}
use Rattle.castor_alg.specs.Typing.{Typed, column_types}

-- both are well typed with the same column types, and over all that fits the context they have the same rows up to order and the same faults
pub record Equivalent (context : Context) (q r : Rel) : Type 0 where
  pub typed : Typed q context
  pub same_types : column_types q context ≡ column_types r context
  pub same_meaning : (tables : List Table) (env : Scopes) (params : Row) → Fits context tables env params → SameUpToOrder (meaning q tables env params) (meaning r tables env params)
