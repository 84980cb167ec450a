use Rattle.castor_ltype.proofs.LoopLaws.{added_end}
use Rattle.castor_ltype.proofs.sizes.added.Goals as goal

pub returns-in_default : goal.returns-in_default
returns-in_default c = added_end _ _ _ _ c.in_default.len_below c.loop-size.invariant
