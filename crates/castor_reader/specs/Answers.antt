-- Rows of cells, as the rows of values that they stand for.
use Rattle.std.specs.Prelude.{List, map, Result, Ok, Err}
use Rattle.std.specs.Borrow.{Bor}
use Rattle.std.specs.declared.vec.Vec.{Vec}
use Rattle.castor_val.specs.declared.fault.Faults.{Faults}
use Rattle.castor_val.specs.declared.row.Row.{Row}
use Rattle.castor_val.specs.declared.value.Cell.{Cell}
use Rattle.castor_val.specs.Values.{value_of}
use Rattle.castor_alg.specs.declared.out.Out.{Out}
use Rattle.castor_reader.specs.declared.answer.Answer.{Answer}

-- the row of the values that cells borrow
abbrev pub values_in : {A : Type 0} → Vec Cell A → Row
values_in row = map value_of row.items

-- the rows of the values that rows of cells borrow
abbrev pub rows_in : {A B : Type 0} → Vec (Vec Cell A) B → List Row
rows_in rows = map values_in rows.items

-- the row of the values of a borrowed row of cells
abbrev pub row_behind : Bor (List Cell) → Row
row_behind row = map value_of row.now

-- the rows and the faults of an answer
abbrev pub out_of : Answer → Out
out_of answer = record { rows = rows_in answer.rows; faults = answer.faults }

-- the row of values of a row of cells that was found, or the faults
abbrev pub row_of : {A : Type 0} → Result (Vec Cell A) Faults → Result Row Faults
row_of (Ok row) = Ok (values_in row)
row_of (Err f) = Err f
