use Rattle.std.proofs.Common.{◌≡◌, drop, map}
use Rattle.castor_code.specs.Data.{format, readers}
use Rattle.castor_code.specs.Steps.{behind}
use Rattle.castor_image.specs.IndexReadings.{key_read}
use Rattle.castor_image.proofs.reading.Input.key.Given as goal

abbrev pub invariant-loop-code : goal.invariant-loop-code
invariant-loop-code l = key_read (readers (map format l.codes)) l.fn.self.rest.now ≡ behind l.key (key_read (readers (map format (drop l.code-index l.codes))) l.self.rest.now)
