use Rattle.castor_ltype.proofs.ScalarLaws.{bools_sized}
use Rattle.castor_ltype.proofs.scalars.bools.Goals as goal

pub returns-clause-sizes : goal.returns-clause-sizes
returns-clause-sizes c = bools_sized c.args.values.now c.loop-value.value-index c.loop-value.sizes.items c.loop-value-test.false c.loop-value.invariant
