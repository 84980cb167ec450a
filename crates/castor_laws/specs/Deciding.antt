-- Conditions that never fault over the rows at hand.
use Rattle.std.specs.Prelude.{◌≡◌, List, All, Bool, Ok}
use Rattle.castor_val.specs.declared.row.Row.{Row}
use Rattle.castor_val.specs.declared.value.Value.TheVariants.{Bool as Truth}
use Rattle.castor_alg.specs.Expression.{Answer}

-- on each of the rows the test doesn't fault, and is true just where this holds
abbrev pub DecidesOn : List Row → (Row → Answer) → (Row → Bool) → Type 0
DecidesOn rows test holds = All (λ row. test row ≡ Ok (Truth (holds row))) rows
