-- Held data of two parts.
use Rattle.std.specs.Prelude.{List, [], ◌∷◌, Option, Some, None}
use Rattle.castor_alg.specs.declared.held.Held.{Held}
use Rattle.castor_code.specs.LayoutMeaning.{all_in}
use Rattle.castor_code.specs.Shapes.{parts_of}

-- the first of two
abbrev pub first_of : List Held → Option Held
first_of [] = None
first_of (h ∷ []) = None
first_of (h ∷ g ∷ []) = Some h
first_of (h ∷ g ∷ f ∷ hs) = None

-- the second of two
abbrev pub second_of : List Held → Option Held
second_of [] = None
second_of (h ∷ []) = None
second_of (h ∷ g ∷ []) = Some g
second_of (h ∷ g ∷ f ∷ hs) = None

-- the first of the two parts of a dependent join
abbrev pub first_part : Held → Option Held
first_part h = first_of (all_in (parts_of h))

-- the second of the two parts of a dependent join
abbrev pub second_part : Held → Option Held
second_part h = second_of (all_in (parts_of h))
