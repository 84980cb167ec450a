use Rattle.castor_laws.proofs.FilterLaws.{filtered-deduped}
use Rattle.castor_laws.proofs.partition.filter_of_distinct.Goals as goal

pub returns : goal.returns
returns c = filtered-deduped
