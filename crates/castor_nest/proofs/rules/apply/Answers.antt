use Rattle.castor_nest.proofs.StoreLaws.{row_is, row_keeps}
use Rattle.castor_nest.proofs.rules.apply.Goals as goal

pub returns-in_ok-store_copy-in-Nothing-clause-row : goal.returns-in_ok-store_copy-in-Nothing-clause-row
returns-in_ok-store_copy-in-Nothing-clause-row c = row_is _ _ _ _ _ _ c.in-Nothing.is c.as_slice.ensures c.in_ok-store_copy-in-Nothing.ensures

pub returns-in_ok-store_copy-in-Nothing-clause-keeps : goal.returns-in_ok-store_copy-in-Nothing-clause-keeps
returns-in_ok-store_copy-in-Nothing-clause-keeps c = row_keeps _ _ _ _ _ c.requires.typed c.as_slice.ensures c.in_ok-store_copy-in-Nothing.ensures
