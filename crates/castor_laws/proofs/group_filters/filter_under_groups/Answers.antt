use Rattle.castor_laws.proofs.GroupFilterLaws.{filter_under_groups}
use Rattle.castor_laws.proofs.group_filters.filter_under_groups.Goals as goal

pub returns : goal.returns
returns c = filter_under_groups
