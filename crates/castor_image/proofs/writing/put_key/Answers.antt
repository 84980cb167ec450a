use Rattle.std.proofs.Common.{inr, refl}
use Rattle.castor_image.proofs.KeyPutLaws.{values_apart}
use Rattle.castor_image.proofs.writing.put_key.Goals as goal

pub returns-then-key-values : goal.returns-then-key-values
returns-then-key-values c = inr (refl, values_apart c.args.key.now c.args.values.now c.if-key-values.true)
