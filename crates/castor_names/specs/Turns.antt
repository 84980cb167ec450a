-- Checks that come one after another, of which the first refusal counts.
use Rattle.std.specs.Prelude.{List, [], ◌∷◌, Result, Ok, Err}

-- what follows on what was found, where it wasn't refused
abbrev pub and_then : {X Y E : Type 0} → Result X E → (X → Result Y E) → Result Y E
and_then (Ok x) next = next x
and_then (Err why) next = Err why

-- each of a list in its order adds to what was found before it
abbrev pub in_order : {S X E : Type 0} → (S → X → Result S E) → S → List X → Result S E
in_order add found [] = Ok found
in_order add found (x ∷ xs) = and_then (add found x) (λ more. in_order add more xs)
