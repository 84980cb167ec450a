use Rattle.castor_laws.proofs.LookUpLaws.{filter_is_look_up}
use Rattle.castor_laws.proofs.partition.filter_is_look_up.Goals as goal

pub returns : goal.returns
returns c = filter_is_look_up
