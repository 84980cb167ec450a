use Rattle.std.proofs.Common.{arith}
use Rattle.castor_code.specs.CodeAnswers.{seen}
use Rattle.castor_code.specs.CodeReadings.{key_in}
use Rattle.castor_code.proofs.LoopLaws.{loop_more}
use Rattle.castor_code.proofs.decoding.Input.keys.Goals as goal

pub loop-preserved : goal.loop-preserved
loop-preserved c = loop_more key_in _ c.loop.keys _ c.in-Ok.key c.args.number c.loop.counter (seen c.loop.self) (seen c.key.new.self) c.loop.invariant (omega arith) c.in-Ok.ensures c.in_ok-push.ensures.ok
