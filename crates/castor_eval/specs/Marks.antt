-- Rows that are marked by a list of truths beside them.
use Rattle.std.specs.Prelude.{List, [], ◌∷◌, Bool, if◌then◌else◌}

-- the elements whose mark is true
abbrev pub marked : {X : Type 0} → List Bool → List X → List X
marked [] xs = []
marked (b ∷ marks) [] = []
marked (b ∷ marks) (x ∷ xs) = if b then x ∷ marked marks xs else marked marks xs
