-- What giving a text to an output leaves.
use Rattle.std.specs.Prelude.{ℕ, List, Option, Result, MatchResult}
use Rattle.std.specs.Io.KnownBytes.{Appends}
use Rattle.castor_base.specs.Moves.{AppendsPrefix}

-- all of the text went out, or else a prefix of it, and the count of faults rose
abbrev pub Puts : {T E : Type 0} → Option (List ℕ) → Option (List ℕ) → Type 0 → List ℕ → Result T E → Type 0
Puts old new rose text result = MatchResult result (λ done. Appends old new text) (λ why. AppendsPrefix old new text × rose)
