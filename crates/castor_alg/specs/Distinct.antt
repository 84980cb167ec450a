-- Distinct elements by first appearance.
use Rattle.std.specs.Prelude.{List, [], ◌∷◌, filter, Bool, not}
use Rattle.castor_val.specs.Values.{same_row}
use Rattle.castor_alg.specs.declared.out.Out.{Out}

-- the distinct elements, by first appearance
abbrev pub distinct : {X : Type 0} → (X → X → Bool) → List X → List X
distinct same [] = []
distinct same (a ∷ xs) = a ∷ filter (λ b. not (same a b)) (distinct same xs)

-- the distinct rows
abbrev pub deduped : Out → Out
deduped r = record { rows = distinct same_row r.rows; faults = r.faults }
