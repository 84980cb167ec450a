-- What is made where there is memory for it.
use Rattle.std.specs.Prelude.{◌≡◌, Result, IfOk}
use Rattle.castor_val.specs.declared.memory.Memory.{Memory}

-- this is made, or there was no memory for it
abbrev pub Makes : {X : Type 0} → X → Result X Memory → Type 0
Makes due made = IfOk made (λ x. x ≡ due)
