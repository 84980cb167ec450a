use Rattle.std.proofs.Common.{◌≡◌, ◌-◌}
use Rattle.castor_code.specs.Steps.{many, behind}
use Rattle.castor_image.specs.HeadReadings.{column_read}
use Rattle.castor_image.proofs.reading.Input.many_columns.Given as goal

abbrev pub invariant-loop : goal.invariant-loop
invariant-loop l = many l.number column_read l.fn.self.rest.now ≡ behind l.columns (many (l.number - l.counter) column_read l.self.rest.now)
