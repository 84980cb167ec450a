-- One check behind another.
use Rattle.std.specs.Prelude.{Result, Ok, Err}
use Rattle.castor_cli.specs.declared.status.Status.{Status}

-- an answer, and then what it is needed for; the first refusal is the refusal of the whole
abbrev pub after : {A B : Type 0} → Result A Status → (A → Result B Status) → Result B Status
after (Ok a) next = next a
after (Err why) next = Err why
