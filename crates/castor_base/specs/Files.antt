-- Files by name, and what a call of a shelf says of them.
use Rattle.std.specs.Prelude.{◌≡◌, ◌≢◌, ◌⊎◌, ℕ, ◌<◌, ◌≤◌, ◌++◌, List, length, Option, Some, None, IsSomeAnd}
use Rattle.castor_base.specs.declared.failed.ShelfError.{ShelfError}
use Rattle.castor_base.specs.declared.failed.ShelfError.TheVariants as e

-- the files of a shelf: the bytes under each name that has some
abbrev pub Files : Type 0
Files = List ℕ → Option (List ℕ)

-- no file changed
abbrev pub SameFiles : Option Files → Option Files → Type 0
SameFiles None new = Unit {0}
SameFiles (Some f) None = ⊥
SameFiles (Some f) (Some g) = (name : List ℕ) → g name ≡ f name

-- the files under other names stay
abbrev pub SameOthers : Option Files → Option Files → List ℕ → Type 0
SameOthers None new at = Unit {0}
SameOthers (Some f) None at = ⊥
SameOthers (Some f) (Some g) at = (name : List ℕ) → name ≢ at → g name ≡ f name

-- the file under this name has these bytes
abbrev pub HasFile : Option Files → List ℕ → List ℕ → Type 0
HasFile None at bytes = Unit {0}
HasFile (Some f) at bytes = f at ≡ Some bytes

-- some bytes begin with this prefix
abbrev pub IsPrefix : List ℕ → List ℕ → Type 0
IsPrefix prefix bytes = (rest : List ℕ) × (bytes ≡ prefix ++ rest)

-- after a write that failed the file is as before, missing, or holds a prefix of the new bytes
abbrev pub IsTorn : Option Files → Option Files → List ℕ → List ℕ → Type 0
IsTorn None new at bytes = Unit {0}
IsTorn (Some f) None at bytes = ⊥
IsTorn (Some f) (Some g) at bytes = (g at ≡ f at) ⊎ (g at ≡ None) ⊎ ((prefix : List ℕ) × IsPrefix prefix bytes × (g at ≡ Some prefix))

-- the file's bytes were read, at most limit of them
abbrev pub ReadFile : Option Files → List ℕ → ℕ → List ℕ → Type 0
ReadFile None name limit bytes = Unit {0}
ReadFile (Some f) name limit bytes = (f name ≡ Some bytes) × (length bytes ≤ limit)

-- why a read was refused, where the files are told and where they are not: a told name that is missing is Absent, one with too many bytes is TooLong, and only another can be Failed
abbrev pub ReadWhy : Option Files → List ℕ → ℕ → Type 0 → ShelfError → Type 0
ReadWhy told name limit rose e.Memory = Unit {0}
ReadWhy None name limit rose e.Failed = rose
ReadWhy (Some f) name limit rose e.Failed = rose × IsSomeAnd (f name) (λ bytes. length bytes ≤ limit)
ReadWhy None name limit rose e.Absent = rose
ReadWhy (Some f) name limit rose e.Absent = f name ≡ None
ReadWhy None name limit rose e.TooLong = rose
ReadWhy (Some f) name limit rose e.TooLong = IsSomeAnd (f name) (λ bytes. limit < length bytes)
