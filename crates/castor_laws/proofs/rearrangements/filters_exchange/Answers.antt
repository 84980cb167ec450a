use Rattle.castor_laws.proofs.ExchangeLaws.{filters_exchange}
use Rattle.castor_laws.proofs.rearrangements.filters_exchange.Goals as goal

pub returns : goal.returns
returns c = filters_exchange
