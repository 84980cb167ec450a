-- What calls on held data answer, and what it rests on.
use Rattle.std.specs.Prelude.{◌≡◌, List, Result, Ok, Err, ⊤}
use Rattle.castor_val.specs.declared.fault.Faults.{Faults}
use Rattle.castor_val.specs.declared.row.Row.{Row}
use Rattle.castor_val.specs.declared.table.Table.{Table}
use Rattle.castor_alg.specs.declared.held.Held.{Held}
use Rattle.castor_alg.specs.declared.rel.Rel.{Rel}
use Rattle.castor_alg.specs.Scopes.{Scopes}
use Rattle.castor_stage.specs.declared.hold_error.HoldError.{HoldError}
use Rattle.castor_stage.specs.declared.hold_error.HoldError.TheVariants as why
use Rattle.castor_alg.specs.HeldData.{held_under}

-- the tree or the faults that are due, or want of memory
abbrev pub IsHold : Result Held Faults → Result Held HoldError → Type 0
IsHold due (Ok held) = due ≡ Ok held
IsHold due (Err (why.Faults f)) = due ≡ Err f
IsHold due (Err why.Memory) = ⊤

-- what is held is the same whatever rows the scopes around the query and the scopes that are known at run have, and whatever the parameters are
abbrev pub IsKnownAtBuild : Rel → Type 0
IsKnownAtBuild q = (tables : List Table) (env other run later : Scopes) (params values : Row) → held_under q tables env run params ≡ held_under q tables other later values
