use Rattle.castor_script.proofs.MovingLaws.{cross_values}
use Rattle.castor_script.proofs.known_keys.move_into_body.Goals as goal

pub returns-in_ok-move_to_operands-in-Cross : goal.returns-in_ok-move_to_operands-in-Cross
returns-in_ok-move_to_operands-in-Cross c =
    cross_values _ c.in-Cross.operands _ _ _ c.in-Cross.is (rw c.as_slice.ensures at c.in_ok-move_to_operands-in-Cross.ensures)
