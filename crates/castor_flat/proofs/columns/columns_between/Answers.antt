use Rattle.castor_flat.proofs.ColumnLaws.{columns_all, columns_first, columns_more}
use Rattle.castor_flat.proofs.columns.columns_between.Goals as goal

pub loop-at-init : goal.loop-at-init
loop-at-init c = columns_first c.args.from _ c.new-columns.ensures

pub loop-at-preserved : goal.loop-at-preserved
loop-at-preserved c = columns_more _ _ _ _ c.loop-at.auto.at c.in_ok-push.ensures.ok c.loop-at.invariant

pub returns : goal.returns
returns c = columns_all _ _ _ _ c.loop-at-test.false (c.loop-at.auto.at-end c.requires) c.loop-at.invariant
