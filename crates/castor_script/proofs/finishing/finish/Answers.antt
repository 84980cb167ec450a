use Rattle.castor_script.proofs.FinishLaws.{finish_given}
use Rattle.castor_script.proofs.finishing.finish.Goals as goal

pub returns-clause-keeps : goal.returns-clause-keeps
returns-clause-keeps c = finish_given _ _ _ _ c.requires.typed c.as_slice.ensures c.finish_copy.ensures
