-- What whole reads and writes leave.
use Rattle.std.specs.Prelude.{◌≡◌, ℕ, ◌+◌, ◌≤◌, List, length, Option}
use Rattle.std.specs.Io.KnownBytes.{Appends, Consumes}
use Rattle.castor_base.specs.Files.{IsPrefix}
use Rattle.castor_base.specs.declared.failed.TakeError.{TakeError}
use Rattle.castor_base.specs.declared.failed.TakeError.TheVariants as e

-- known bytes grow by a prefix of these
abbrev pub AppendsPrefix : Option (List ℕ) → Option (List ℕ) → List ℕ → Type 0
AppendsPrefix old new bytes = (prefix : List ℕ) × IsPrefix prefix bytes × Appends old new prefix

-- at most this many bytes were taken
abbrev pub TookAtMost : Option (List ℕ) → Option (List ℕ) → ℕ → Type 0
TookAtMost old new most = (took : List ℕ) × (length took ≤ most) × Consumes old new took

-- one byte more than the limit was taken
abbrev pub TookTooMany : Option (List ℕ) → Option (List ℕ) → ℕ → Type 0
TookTooMany old new limit = (took : List ℕ) × (length took ≡ limit + 1) × Consumes old new took

-- why the bytes were not all taken
abbrev pub TakeWhy : Option (List ℕ) → Option (List ℕ) → ℕ → Type 0 → TakeError → Type 0
TakeWhy old new limit rose e.Failed = rose × TookAtMost old new limit
TakeWhy old new limit rose e.TooLong = TookTooMany old new limit
TakeWhy old new limit rose e.Memory = TookAtMost old new limit
