use Rattle.std.proofs.Common.{arith, inr, refl}
use Rattle.castor_image.proofs.TextLaws.{utf8_none, utf8_there}
use Rattle.castor_image.proofs.reading.Input.utf8.Goals as goal

pub returns-in-Ok : goal.returns-in-Ok
returns-in-Ok c = utf8_there c.args.number c.args.self.now.rest.now _ _ _ (omega arith) c.split_at.ensures.front c.split_at.ensures.back c.in-Ok.ensures.cases.1 c.in-Ok.ensures.cases.0

pub returns-in-Err : goal.returns-in-Err
returns-in-Err c = inr (refl, utf8_none c.args.number c.args.self.now.rest.now _ c.split_at.ensures.front c.in-Err.ensures.cases.0)
