use Rattle.std.proofs.Common.{rules}
use Rattle.castor_ltype.proofs.ScalarLaws.{ints_sized}
use Rattle.castor_ltype.proofs.scalars.ints.Goals as goal

pub returns-clause-sizes : goal.returns-clause-sizes
returns-clause-sizes c = ints_sized c.args.values.now c.loop-value.value-index c.loop-value.sizes.items c.loop-value-test.false _ _ _ (search (rules, c.int_width-width.ensures)) c.loop-value.invariant
