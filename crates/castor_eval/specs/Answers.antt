-- Values that are found one after another.
use Rattle.std.specs.Prelude.{[], ◌∷◌, ◌++◌, Result, Ok, Err}
use Rattle.castor_val.specs.declared.fault.Faults.{Faults}
use Rattle.castor_val.specs.declared.row.Row.{Row}
use Rattle.castor_val.specs.Values.{union}
use Rattle.castor_alg.specs.Expression.{Answer}

-- one more value at the end, where nothing faults
abbrev pub put_back : Result Row Faults → Answer → Result Row Faults
put_back (Ok row) (Ok v) = Ok (row ++ v ∷ [])
put_back (Ok row) (Err f) = Err f
put_back (Err f) (Ok v) = Err f
put_back (Err f) (Err g) = Err (union f g)
