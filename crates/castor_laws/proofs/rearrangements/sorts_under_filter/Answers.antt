use Rattle.castor_laws.proofs.ExchangeLaws.{sorts_under_filter}
use Rattle.castor_laws.proofs.rearrangements.sorts_under_filter.Goals as goal

pub returns : goal.returns
returns c = sorts_under_filter
