use Rattle.std.proofs.Common.{arith}
use Rattle.castor_code.specs.CodeAnswers.{seen}
use Rattle.castor_code.specs.CodeReadings.{u32_in}
use Rattle.castor_code.proofs.LoopLaws.{loop_more}
use Rattle.castor_code.proofs.decoding.Input.columns.Goals as goal

pub loop-preserved : goal.loop-preserved
loop-preserved c = loop_more u32_in _ c.loop.columns _ c.in-Ok.column c.in_ok-number.number c.loop.counter (seen c.loop.self) (seen c.u32.new.self) c.loop.invariant (omega arith) c.in-Ok.ensures c.in_ok-push.ensures.ok
