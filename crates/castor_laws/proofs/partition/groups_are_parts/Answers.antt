use Rattle.castor_laws.proofs.GroupPartLaws.{groups_are_parts}
use Rattle.castor_laws.proofs.partition.groups_are_parts.Goals as goal

pub returns : goal.returns
returns c = groups_are_parts
