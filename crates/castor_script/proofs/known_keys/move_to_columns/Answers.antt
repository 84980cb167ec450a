use Rattle.std.proofs.Common.{◌∙◌, sym}
use Rattle.castor_script.proofs.MovingLaws.{moved_ends}
use Rattle.castor_script.proofs.known_keys.move_to_columns.Goals as goal

pub returns-in-None : goal.returns-in-None
returns-in-None c =
    moved_ends _ c.args.keys.now c.loop-key.key-index _ _ c.loop-key-test.true c.loop-key.invariant (sym c.column_place.ensures ∙ sym c.in_ok-col.ensures ∙ c.in-None.is)
