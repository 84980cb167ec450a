use Rattle.std.proofs.Common.{rules}
use Rattle.castor_ltype.proofs.PartLaws.{part_missing, part_there}
use Rattle.castor_ltype.proofs.places.part.Goals as goal

pub returns-in-Some : goal.returns-in-Some
returns-in-Some c = part_there _ _ _ _ c.in-Parts.is (search (rules, c.get.ensures.value))

pub returns-in-None : goal.returns-in-None
returns-in-None c = part_missing _ _ _ _ c.in-Parts.is c.requires (search (rules, c.get.ensures.value))
