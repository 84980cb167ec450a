use Rattle.castor_laws.proofs.CrossLaws.{filter_on_left}
use Rattle.castor_laws.proofs.crosses.filter_on_left.Goals as goal

pub returns : goal.returns
returns c = filter_on_left
