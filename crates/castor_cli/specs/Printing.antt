-- Why not all replies were printed.
use Rattle.castor_cli.specs.declared.answers.PrintError.{PrintError}
use Rattle.castor_cli.specs.declared.answers.PrintError.TheVariants.{Failed, Memory}

-- a failure of the output has its cause
abbrev pub RoseIfFailed : Type 0 → PrintError → Type 0
RoseIfFailed rose Failed = rose
RoseIfFailed rose Memory = Unit {0}
