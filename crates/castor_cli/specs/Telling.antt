-- What goes to the error output.
use Rattle.std.specs.Prelude.{◌≡◌, ℕ, ◌<◌, List, Option}
use Rattle.std.specs.Io.KnownBytes.{Appends}
use Rattle.castor_base.specs.Moves.{AppendsPrefix}
use Rattle.castor_val.specs.Limits.{most_count}
use Rattle.castor_cli.specs.declared.status.Status.{Status}
use Rattle.castor_cli.specs.Status.{error_text}

-- a prefix of the line that tells of the status, and all of it where no fault of the error output was counted
pub record Tells (words : List (List ℕ)) (table : List ℕ) (s : Status) (old new : Option (List ℕ)) (faults_old faults_new : ℕ) : Type 0 where
  pub prefix : AppendsPrefix old new (error_text words table s)
  pub whole : faults_new ≡ faults_old → faults_old < most_count → Appends old new (error_text words table s)
