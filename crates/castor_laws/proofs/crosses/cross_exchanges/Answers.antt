use Rattle.castor_laws.proofs.CrossLaws.{cross_exchanges}
use Rattle.castor_laws.proofs.crosses.cross_exchanges.Goals as goal

pub returns : goal.returns
returns c = cross_exchanges
