use Rattle.std.proofs.Common.{◌≡◌, ◌-◌}
use Rattle.castor_code.specs.CodeAnswers.{seen}
use Rattle.castor_code.specs.CodeReadings.{list_in, u32_in}
use Rattle.castor_code.specs.Steps.{many, behind}
use Rattle.castor_code.proofs.decoding.Input.columns.Given as goal

abbrev pub invariant-loop : goal.invariant-loop
invariant-loop l = list_in u32_in (seen l.fn.self) ≡ behind l.columns (many (l.number - l.counter) u32_in (seen l.self))
