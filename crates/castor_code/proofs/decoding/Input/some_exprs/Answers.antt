use Rattle.std.proofs.Common.{arith}
use Rattle.castor_code.specs.CodeAnswers.{seen}
use Rattle.castor_code.specs.CodeReadings.{expr_in}
use Rattle.castor_code.proofs.LoopLaws.{some_takes}
use Rattle.castor_code.proofs.decoding.Input.some_exprs.Goals as goal

pub returns : goal.returns
returns c = some_takes (expr_in c.args.levels) c.in_ok-number.number (seen c.args.self.now) (seen c.u16.new.self) (seen c.exprs.new.self) c.exprs.result c.in_ok-number.ensures (omega arith) c.exprs.ensures
