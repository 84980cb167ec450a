use Rattle.castor_laws.proofs.ExchangeLaws.{splits_by_test}
use Rattle.castor_laws.proofs.rearrangements.splits_by_test.Goals as goal

pub returns : goal.returns
returns c = splits_by_test
