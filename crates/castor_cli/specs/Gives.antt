-- A call that gives what is due, or the status Memory.
use Rattle.std.specs.Prelude.{Result}
use Rattle.castor_val.specs.Gives.{Gives}
use Rattle.castor_cli.specs.declared.status.Status.{Status}
use Rattle.castor_cli.specs.declared.status.Status.TheVariants as status

abbrev pub GivesStatus : {T X : Type 0} → (T → X) → Result X Status → Result T Status → Type 0
GivesStatus view due result = Gives view status.Memory due result
