use Rattle.castor_laws.proofs.MoveLaws.{select_moves_into}
use Rattle.castor_laws.proofs.rearrangements.select_moves_into.Goals as goal

pub returns : goal.returns
returns c = select_moves_into
