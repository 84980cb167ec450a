use Rattle.castor_laws.proofs.OperatorLaws.{operators_keep}
use Rattle.castor_laws.proofs.operators.operators_keep.Goals as goal

pub returns : goal.returns
returns c = operators_keep
