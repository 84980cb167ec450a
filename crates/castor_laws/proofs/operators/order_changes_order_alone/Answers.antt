use Rattle.castor_laws.proofs.OperatorLaws.{sorted_by_same}
use Rattle.castor_laws.proofs.operators.order_changes_order_alone.Goals as goal

pub returns : goal.returns
returns c = sorted_by_same
