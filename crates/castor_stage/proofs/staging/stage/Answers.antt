use Rattle.castor_stage.proofs.BuildLaws.{known_on_ok}
use Rattle.castor_stage.proofs.staging.stage.Goals as goal

pub returns-clause-known : goal.returns-clause-known
returns-clause-known c = known_on_ok c.args.q.now c.walk.result c.walk.ensures
