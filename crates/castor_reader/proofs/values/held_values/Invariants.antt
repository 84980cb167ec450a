use Rattle.std.proofs.Common.{◌≡◌, take, true}
use Rattle.castor_reader.specs.Answers.{values_in}
use Rattle.castor_reader.specs.HeldValues.{are_values}
use Rattle.castor_reader.proofs.ValueLaws.{AreSoFar}
use Rattle.castor_reader.proofs.values.held_values.Given as goal

abbrev pub invariant-loop-at : goal.invariant-loop-at
invariant-loop-at l = record {
  are : are_values (take l.at l.kids) (take l.at l.parts) ≡ true;
  meant : AreSoFar l.kids l.parts l.at (values_in l.row);
}
