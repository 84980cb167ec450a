use Rattle.std.proofs.Common.{◌∙◌, sym}
use Rattle.castor_script.proofs.MovingLaws.{moved_nowhere, moved_to_scalars}
use Rattle.castor_script.proofs.known_keys.move_to_operands.Goals as goal

pub returns-in_ok-move_to_scalars : goal.returns-in_ok-move_to_scalars
returns-in_ok-move_to_scalars c =
    c.in_ok-move_to_scalars.ensures ∙ moved_to_scalars c.args.operands.now c.args.scope c.args.keys.now (sym c.are_scalars.ensures ∙ c.if-are_scalars.true)

pub returns-else-are_scalars : goal.returns-else-are_scalars
returns-else-are_scalars c =
    c.new.ensures.items ∙ moved_nowhere c.args.operands.now c.args.scope c.args.keys.now (sym c.are_scalars.ensures ∙ c.if-are_scalars.false)
