use Rattle.castor_laws.proofs.EquivalenceLaws.{equivalence_laws}
use Rattle.castor_laws.proofs.equivalence.equivalence_laws.Goals as goal

pub returns : goal.returns
returns c = equivalence_laws
