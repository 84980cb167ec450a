use Rattle.std.proofs.Common.{arith}
use Rattle.castor_code.specs.CodeAnswers.{seen}
use Rattle.castor_code.specs.CodeReadings.{expr_in}
use Rattle.castor_code.proofs.LoopLaws.{loop_more, loop_stopped}
use Rattle.castor_code.proofs.decoding.Input.exprs.Goals as goal

pub loop-preserved : goal.loop-preserved
loop-preserved c = loop_more (expr_in c.args.levels) _ c.loop.es _ c.in-Ok.e c.args.number c.loop.counter (seen c.loop.self) (seen c.expr.new.self) c.loop.invariant (omega arith) c.in-Ok.ensures c.in_ok-push.ensures.ok

pub returns-in-Err : goal.returns-in-Err
returns-in-Err c = loop_stopped (expr_in c.args.levels) _ c.loop.es c.args.number c.loop.counter (seen c.loop.self) _ c.loop.invariant (omega arith) c.in-Err.ensures
