use Rattle.castor_laws.proofs.FilterLaws.{conjunction_commutes}
use Rattle.castor_laws.proofs.rearrangements.conjunction_commutes.Goals as goal

pub returns : goal.returns
returns c = conjunction_commutes
