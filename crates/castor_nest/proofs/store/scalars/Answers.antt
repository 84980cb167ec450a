use Rattle.castor_nest.proofs.ScopeColumnLaws.{made_more}
use Rattle.castor_nest.proofs.store.scalars.Goals as goal

pub loop-at-preserved : goal.loop-at-preserved
loop-at-preserved c = made_more _ _ _ _ _ c.loop-at-test.true c.in_ok-push.ensures.ok c.loop-at.invariant
