use Rattle.std.proofs.Common.{◌≡◌, ◌-◌}
use Rattle.castor_code.specs.CodeAnswers.{seen}
use Rattle.castor_code.specs.CodeReadings.{list_in, agg_in}
use Rattle.castor_code.specs.Steps.{many, behind}
use Rattle.castor_code.proofs.decoding.Input.aggs.Given as goal

abbrev pub invariant-loop : goal.invariant-loop
invariant-loop l = list_in agg_in (seen l.fn.self) ≡ behind l.aggs (many (l.number - l.counter) agg_in (seen l.self))
