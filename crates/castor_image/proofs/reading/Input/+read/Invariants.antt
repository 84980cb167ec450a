use Rattle.std.proofs.Common.{◌≡◌, ◌-◌, drop, map}
use Rattle.castor_code.specs.Data.{format, readers, data_read}
use Rattle.castor_code.specs.Readings.{in_order}
use Rattle.castor_code.specs.Steps.{many, behind}
use Rattle.castor_image.specs.IndexReadings.{keyed_read}
use Rattle.castor_image.proofs.reading.Input.+read.Given as goal

abbrev pub invariant-in_order-loop-kid : goal.invariant-in_order-loop-kid
invariant-in_order-loop-kid l = in_order (readers (map format l.kids)) l.fn.self.rest.now ≡ behind l.parts (in_order (readers (map format (drop l.kid-index l.kids))) l.self.rest.now)

abbrev pub invariant-many-loop : goal.invariant-many-loop
invariant-many-loop l = many l.number (data_read l.kid) l.fn.self.rest.now ≡ behind l.rows (many (l.number - l.counter) (data_read l.kid) l.self.rest.now)

abbrev pub invariant-many_entries-loop : goal.invariant-many_entries-loop
invariant-many_entries-loop l = many l.number (keyed_read (readers (map format l.key)) (data_read l.kid)) l.fn.self.rest.now ≡ behind l.entries.items (many (l.number - l.counter) (keyed_read (readers (map format l.key)) (data_read l.kid)) l.self.rest.now)
