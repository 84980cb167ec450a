-- Answers of borrowed cells.
use Rattle.std.specs.Prelude.{Result, Ok, Err}
use Rattle.castor_val.specs.declared.value.Cell.{Cell}
use Rattle.castor_val.specs.declared.fault.Faults.{Faults}
use Rattle.castor_val.specs.Values.{value_of}
use Rattle.castor_alg.specs.Expression.{Answer}

-- the answer with the value that a cell borrows
abbrev pub answer_of : Result Cell Faults → Answer
answer_of (Ok c) = Ok (value_of c)
answer_of (Err f) = Err f
