use Rattle.castor_laws.proofs.RangeLaws.{filter_is_range}
use Rattle.castor_laws.proofs.partition.filter_is_range.Goals as goal

pub returns : goal.returns
returns c = filter_is_range
