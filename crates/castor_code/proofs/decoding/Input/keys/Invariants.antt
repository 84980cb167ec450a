use Rattle.std.proofs.Common.{◌≡◌, ◌-◌}
use Rattle.castor_code.specs.CodeAnswers.{seen}
use Rattle.castor_code.specs.CodeReadings.{key_in}
use Rattle.castor_code.specs.Steps.{many, behind}
use Rattle.castor_code.proofs.decoding.Input.keys.Given as goal

abbrev pub invariant-loop : goal.invariant-loop
invariant-loop l = many l.number key_in (seen l.fn.self) ≡ behind l.keys (many (l.number - l.counter) key_in (seen l.self))
