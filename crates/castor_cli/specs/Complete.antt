-- That nothing but a named cause, or want of memory, keeps a run from its end.
use Rattle.std.specs.Prelude.{ℕ, ◌≤◌, List, length, Option, Some, None, Result, IfSome}
use Rattle.castor_base.specs.Files.{Files}
use Rattle.castor_val.specs.Limits.{most_input_bytes}
use Rattle.castor_image.specs.Images.{Content}
use Rattle.castor_cli.specs.declared.command.Command.{Command}
use Rattle.castor_cli.specs.declared.command.Command.TheVariants.{Build}
use Rattle.castor_cli.specs.declared.status.Status.{Status}
use Rattle.castor_cli.specs.declared.status.Status.TheVariants as status
use Rattle.castor_cli.specs.Outcome.{Devices, IsReady}
use Rattle.castor_cli.specs.Preparation.{Broken}

-- the input is told, and has no more bytes than are read
abbrev pub IsWithinLimit : Option (List ℕ) → Type 0
IsWithinLimit None = ⊥
IsWithinLimit (Some bytes) = length bytes ≤ most_input_bytes

-- a build reads no input
abbrev pub InputIsWithin : Option Command → Option (List ℕ) → Type 0
InputIsWithin (Some Build) input = Unit {0}
InputIsWithin command input = IsWithinLimit input

-- No cause of a refusal holds: the image can be built or opened, the input isn't too long, and no device has failed, by
-- the counts of its faults.
pub record HasNoCause (command : Option Command) (ready : Broken → Result Content Status → Type 0) (input : Option (List ℕ)) (rose : List ℕ → Type 0) (d : Devices) : Type 0 where
  pub starts : IsReady ready
  pub within : InputIsWithin command input
  pub files : (name : List ℕ) → rose name → ⊥
  pub source : d.input → ⊥
  pub sink : d.output → ⊥
  pub stored : d.image → ⊥

-- the run came to its end, or met want of memory
abbrev pub IsOkOrMemory : Status → Type 0
IsOkOrMemory status.Ok = Unit {0}
IsOkOrMemory status.Memory = Unit {0}
IsOkOrMemory s = ⊥

-- where files are told and no cause holds, a run comes to its end or meets want of memory
abbrev pub Completes : Option Command → Option Files → (Files → Broken → Result Content Status → Type 0) → Option (List ℕ) → (List ℕ → Type 0) → Devices → Status → Type 0
Completes command told ready input rose d s = IfSome told (λ (files : Files). HasNoCause command (ready files) input rose d → IsOkOrMemory s)
