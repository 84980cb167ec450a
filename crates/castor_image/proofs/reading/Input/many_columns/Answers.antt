use Rattle.std.proofs.Common.{arith}
use Rattle.castor_code.proofs.LoopLaws.{loop_more}
use Rattle.castor_image.specs.HeadReadings.{column_read}
use Rattle.castor_image.proofs.TakeLaws.{many_stopped}
use Rattle.castor_image.proofs.reading.Input.many_columns.Goals as goal

pub loop-preserved : goal.loop-preserved
loop-preserved c = loop_more column_read _ c.loop.columns _ c.in-Ok.column c.args.number c.loop.counter c.loop.self.rest.now c.column.new.self.rest.now c.loop.invariant (omega arith) c.in-Ok.ensures c.in_ok-push.ensures.ok

pub returns-in-Err : goal.returns-in-Err
returns-in-Err c = many_stopped column_read _ c.loop.columns c.args.number c.loop.counter c.loop.self.rest.now _ c.loop.invariant (omega arith) c.in-Err.ensures
