use Rattle.castor_cli.proofs.HeldLaws.{built_after, refused_after}
use Rattle.castor_cli.proofs.building.build_last.Goals as goal

pub returns-in-Ok : goal.returns-in-Ok
returns-in-Ok c = built_after _ _ _ _ c.in-Ok.ensures c.image_of.ensures

pub returns-in-Err : goal.returns-in-Err
returns-in-Err c = refused_after _ _ _ c.in-Err.ensures
