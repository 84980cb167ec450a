use Rattle.castor_cli.proofs.HeldLaws.{built_after, refused_after}
use Rattle.castor_cli.proofs.building.build.Goals as goal

pub returns-in-Ok : goal.returns-in-Ok
returns-in-Ok c = built_after _ _ _ _ c.in-Ok.ensures.row c.build_last.ensures

pub returns-in-Err : goal.returns-in-Err
returns-in-Err c = refused_after _ _ _ c.in-Err.ensures.row
