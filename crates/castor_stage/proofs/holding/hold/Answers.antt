use Rattle.castor_stage.proofs.AscendingLaws.{hold_ascends}
use Rattle.castor_stage.proofs.holding.hold.Goals as goal

pub returns-in-Ok-clause-keys : goal.returns-in-Ok-clause-keys
returns-in-Ok-clause-keys c = hold_ascends c.args.q.now c.args.tables.now c.in-Ok.out c.tree_of.result c.in-Ok.ensures c.tree_of.ensures
