-- Lists of columns.
use Rattle.std.specs.Prelude.{List, map}
use Rattle.castor_val.specs.declared.column.Column.{Column}
use Rattle.castor_val.specs.declared.value.Ty.{Ty}

-- the types of columns
abbrev pub types_of : List Column → List Ty
types_of columns = map (λ c. c.ty) columns
