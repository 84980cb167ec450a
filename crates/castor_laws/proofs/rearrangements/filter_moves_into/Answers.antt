use Rattle.castor_laws.proofs.MoveLaws.{filter_moves_into}
use Rattle.castor_laws.proofs.rearrangements.filter_moves_into.Goals as goal

pub returns : goal.returns
returns c = filter_moves_into
