use Rattle.castor_eval.proofs.AggregateLaws.{aggregates-step}
use Rattle.castor_reader.proofs.group.group_row.Goals as goal

pub loop-agg-preserved : goal.loop-agg-preserved
loop-agg-preserved c = aggregates-step _ _ _ _ _ _ _ _ c.loop-agg-test.true c.loop-agg.invariant c.aggregate.ensures c.in_ok-answer.ensures
