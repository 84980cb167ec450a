use Rattle.castor_laws.proofs.MoveLaws.{after_projection}
use Rattle.castor_laws.proofs.rearrangements.after_projection.Goals as goal

pub returns : goal.returns
returns c = after_projection
