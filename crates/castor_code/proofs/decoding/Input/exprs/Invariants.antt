use Rattle.std.proofs.Common.{◌≡◌, ◌-◌}
use Rattle.castor_code.specs.CodeAnswers.{seen}
use Rattle.castor_code.specs.CodeReadings.{expr_in}
use Rattle.castor_code.specs.Steps.{many, behind}
use Rattle.castor_code.proofs.decoding.Input.exprs.Given as goal

abbrev pub invariant-loop : goal.invariant-loop
invariant-loop l = many l.number (expr_in l.levels) (seen l.fn.self) ≡ behind l.es (many (l.number - l.counter) (expr_in l.levels) (seen l.self))
