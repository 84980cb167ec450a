use Rattle.castor_laws.proofs.EquivalenceLaws.{congruence}
use Rattle.castor_laws.proofs.equivalence.equivalence_is_congruence.Goals as goal

pub returns : goal.returns
returns c = congruence
