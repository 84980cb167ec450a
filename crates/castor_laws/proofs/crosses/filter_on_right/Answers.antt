use Rattle.castor_laws.proofs.CrossLaws.{filter_on_right}
use Rattle.castor_laws.proofs.crosses.filter_on_right.Goals as goal

pub returns : goal.returns
returns c = filter_on_right
