-- Parts that are one value each.
use Rattle.std.specs.Prelude.{◌≡◌, List, [], ◌∷◌, Bool, true, false, ◌&&◌, Some, map}
use Rattle.std.specs.Option.{is_some}
use Rattle.castor_val.specs.declared.row.Row.{Row}
use Rattle.castor_val.specs.declared.value.Value.{Value}
use Rattle.castor_val.specs.Values.{no_faults}
use Rattle.castor_alg.specs.declared.held.Held.{Held}
use Rattle.castor_alg.specs.declared.out.Out.{Out}
use Rattle.castor_alg.specs.Scopes.{Scopes}
use Rattle.castor_code.specs.declared.code.Code.{Code}
use Rattle.castor_code.specs.CodeReadings.{is_scalar}
use Rattle.castor_code.specs.LayoutMeaning.{layout_meaning, over_parts, value_row}
use Rattle.castor_code.specs.Shapes.{leaf_of}

-- this row, and no faults
abbrev pub one_row : Row → Out
one_row row = record { rows = row ∷ []; faults = no_faults }

-- what one value means
abbrev pub of_value : Value → Out
of_value v = value_row (Some v)

-- the part is this value
abbrev pub IsHeldValue : Code → Held → Value → Type 0
IsHeldValue c h v = (env : Scopes) (p : Row) → layout_meaning c h env p ≡ of_value v

-- the parts are the values of this row, in order
abbrev pub AreHeldValues : List Code → List Held → Row → Type 0
AreHeldValues cs hs row = (env : Scopes) (p : Row) → over_parts (map layout_meaning cs) hs env p ≡ map of_value row

-- a leaf under the code of a scalar
abbrev pub is_value : Code → Held → Bool
is_value c h = is_scalar c && is_some (leaf_of h)

-- one such part for each code
abbrev pub are_values : List Code → List Held → Bool
are_values [] [] = true
are_values [] (h ∷ hs) = false
are_values (c ∷ cs) [] = false
are_values (c ∷ cs) (h ∷ hs) = is_value c h && are_values cs hs
