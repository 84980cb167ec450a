use Rattle.castor_laws.proofs.CrossLaws.{cross_is_dependent}
use Rattle.castor_laws.proofs.crosses.cross_is_dependent.Goals as goal

pub returns : goal.returns
returns c = cross_is_dependent
