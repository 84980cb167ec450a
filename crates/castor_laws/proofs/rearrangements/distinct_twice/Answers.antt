use Rattle.castor_laws.proofs.ExchangeLaws.{distinct_twice}
use Rattle.castor_laws.proofs.rearrangements.distinct_twice.Goals as goal

pub returns : goal.returns
returns c = distinct_twice
