-- When a relation means exactly what another means.
use Rattle.std.specs.Prelude.{◌≡◌, List}
use Rattle.castor_val.specs.declared.row.Row.{Row}
use Rattle.castor_val.specs.declared.table.Table.{Table}
use Rattle.castor_alg.specs.declared.context.Context.{Context}
use Rattle.castor_alg.specs.declared.rel.Rel.{Rel}
use Rattle.castor_alg.specs.Fits.{Fits}
use Rattle.castor_alg.specs.Meaning.{meaning}
use Rattle.castor_alg.specs.Scopes.{Scopes}
use Rattle.castor_alg.specs.Typing.{Typed, column_types}

-- it is well typed with the same column types, and over all that fits the context it has the same rows in the same order and the same faults
pub record MeansTheSame (context : Context) (q r : Rel) : Type 0 where
  pub typed : Typed r context
  pub same_types : column_types r context ≡ column_types q context
  pub same_meaning : (tables : List Table) (env : Scopes) (params : Row) → Fits context tables env params → meaning r tables env params ≡ meaning q tables env params
