use Rattle.castor_script.proofs.MovingLaws.{select_keys}
use Rattle.castor_script.proofs.known_keys.+orders.Goals as goal

pub returns-in_ok-move_to_columns-in-Select : goal.returns-in_ok-move_to_columns-in-Select
returns-in_ok-move_to_columns-in-Select t c =
    select_keys _ c.in-Select.es _ _ _ c.in-Select.is (rw c.get.ensures at c.in_ok-keys-in-Select.ensures) (rw (c.as_slice.ensures, c.deref.ensures.value) at c.in_ok-move_to_columns-in-Select.ensures)
