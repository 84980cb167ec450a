-- The names of the kinds of a set of faults.
use Rattle.std.specs.Prelude.{ℕ, List, [], ◌∷◌, ◌++◌, Bool, true, false, codes}
use Rattle.castor_val.specs.declared.fault.Faults.{Faults}

-- the name of a kind of fault, where the set has it
abbrev pub name_if : Bool → List ℕ → List (List ℕ)
name_if true name = name ∷ []
name_if false name = []

abbrev pub comma_separated : List (List ℕ) → List ℕ
comma_separated [] = []
comma_separated (name ∷ []) = name
comma_separated (name ∷ next ∷ more) = name ++ codes "," ++ comma_separated (next ∷ more)

-- the kinds of a set of faults
abbrev pub kinds_text : Faults → List ℕ
kinds_text f = comma_separated (name_if f.division (codes "division") ++ name_if f.overflow (codes "overflow") ++ name_if f.norows (codes "norows"))
