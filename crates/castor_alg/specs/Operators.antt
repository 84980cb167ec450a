-- The binary operators by their kind: on truths, on the order of two values, on whole numbers.
use Rattle.std.specs.Prelude.{ℤ, ◌+ℤ◌, ◌-ℤ◌, ◌*ℤ◌, Bool, false, ◌&&◌, ◌||◌}
use Rattle.std.specs.declared.cmp.Ordering.{Ordering}
use Rattle.std.specs.Ordering.{is_eq, is_ne, is_lt, is_le, is_gt, is_ge}
use Rattle.castor_alg.specs.declared.expr.Op.{Op}
use Rattle.castor_alg.specs.declared.expr.Op.TheVariants.{Or, And, Eq, Ne, Lt, Le, Gt, Ge, Add, Sub, Mul, Div, Rem}
use Rattle.castor_alg.specs.Expression.{Answer, ill_typed, whole, quotient, remainder}

-- what a connective makes of two truths
abbrev pub connects : Op → Bool → Bool → Bool
connects Or x y = x || y
connects And x y = x && y
connects Eq x y = false
connects Ne x y = false
connects Lt x y = false
connects Le x y = false
connects Gt x y = false
connects Ge x y = false
connects Add x y = false
connects Sub x y = false
connects Mul x y = false
connects Div x y = false
connects Rem x y = false

-- whether a comparison holds of values in this order
abbrev pub holds : Op → Ordering → Bool
holds Or order = false
holds And order = false
holds Eq order = is_eq order
holds Ne order = is_ne order
holds Lt order = is_lt order
holds Le order = is_le order
holds Gt order = is_gt order
holds Ge order = is_ge order
holds Add order = false
holds Sub order = false
holds Mul order = false
holds Div order = false
holds Rem order = false

-- what an arithmetic operator makes of two whole numbers
abbrev pub computes : Op → ℤ → ℤ → Answer
computes Or x y = ill_typed
computes And x y = ill_typed
computes Eq x y = ill_typed
computes Ne x y = ill_typed
computes Lt x y = ill_typed
computes Le x y = ill_typed
computes Gt x y = ill_typed
computes Ge x y = ill_typed
computes Add x y = whole (x +ℤ y)
computes Sub x y = whole (x -ℤ y)
computes Mul x y = whole (x *ℤ y)
computes Div x y = quotient x y
computes Rem x y = remainder x y
