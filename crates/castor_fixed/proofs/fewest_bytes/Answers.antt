use Rattle.std.proofs.Common.{arith}
use Rattle.castor_fixed.proofs.FieldLaws.{width-more, width-within}
use Rattle.castor_fixed.proofs.fewest_bytes.Goals as goal

pub overflow_add-bytes : goal.overflow_add-bytes
overflow_add-bytes c = omega (arith, width-within c.args.most (omega arith), width-more c.loop-rest.rest (omega arith))

pub loop-rest-preserved : goal.loop-rest-preserved
loop-rest-preserved c = omega (arith, width-more c.loop-rest.rest (omega arith))

pub returns-clause-within : goal.returns-clause-within
returns-clause-within c = omega (arith, width-within c.args.most (omega arith))
