use Rattle.castor_ltype.proofs.ScalarLaws.{texts_sized}
use Rattle.castor_ltype.proofs.scalars.texts.Goals as goal

pub returns-clause-sizes : goal.returns-clause-sizes
returns-clause-sizes c = texts_sized c.args.values.now c.loop-value.value-index c.loop-value.sizes.items c.loop-value-test.false c.least_range-lengths.result _ _ _ c.range_width-width.ensures.value c.in_ok-min.ensures c.in_ok-max.ensures c.loop-value.invariant
