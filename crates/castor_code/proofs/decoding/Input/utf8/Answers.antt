use Rattle.std.proofs.Common.{arith, inr, refl}
use Rattle.castor_code.specs.CodeAnswers.{seen}
use Rattle.castor_code.proofs.TextLaws.{utf8_none, utf8_there}
use Rattle.castor_code.proofs.decoding.Input.utf8.Goals as goal

pub returns-in-Ok : goal.returns-in-Ok
returns-in-Ok c = utf8_there c.args.length (seen c.args.self.now) _ _ _ (omega arith) c.split_at.ensures.front c.split_at.ensures.back c.in-Ok.ensures.cases.1 c.in-Ok.ensures.cases.0

pub returns-in-Err : goal.returns-in-Err
returns-in-Err c = inr (refl, utf8_none c.args.length (seen c.args.self.now) _ c.split_at.ensures.front c.in-Err.ensures.cases.0)
