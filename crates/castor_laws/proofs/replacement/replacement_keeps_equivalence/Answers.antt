use Rattle.castor_laws.proofs.ReplacementLaws.{replaced_equivalent}
use Rattle.castor_laws.proofs.replacement.replacement_keeps_equivalence.Goals as goal

pub returns : goal.returns
returns c = replaced_equivalent
