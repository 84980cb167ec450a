use Rattle.castor_laws.proofs.FilterLaws.{filtered_by_both}
use Rattle.castor_laws.proofs.partition.filter_by_both.Goals as goal

pub returns : goal.returns
returns c = λ f g r values. filtered_by_both f g values r
