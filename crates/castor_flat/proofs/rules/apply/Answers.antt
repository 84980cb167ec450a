use Rattle.castor_flat.proofs.RuleLaws.{made_keeps}
use Rattle.castor_flat.proofs.rules.apply.Goals as goal

pub returns-clause-keeps : goal.returns-clause-keeps
returns-clause-keeps c = made_keeps _ _ _ _ _ c.requires.typed c.rewritten.ensures
