use Rattle.std.proofs.Common.{arith}
use Rattle.castor_code.specs.CodeAnswers.{seen}
use Rattle.castor_code.specs.CodeReadings.{key_in}
use Rattle.castor_code.proofs.LoopLaws.{some_takes}
use Rattle.castor_code.proofs.decoding.Input.some_keys.Goals as goal

pub returns : goal.returns
returns c = some_takes key_in c.in_ok-number.number (seen c.args.self.now) (seen c.u16.new.self) (seen c.keys.new.self) c.keys.result c.in_ok-number.ensures (omega arith) c.keys.ensures
