use Rattle.castor_laws.proofs.LoopLaws.{dependent_joins_regroup}
use Rattle.castor_laws.proofs.loops.dependent_joins_regroup.Goals as goal

pub returns : goal.returns
returns c = dependent_joins_regroup
