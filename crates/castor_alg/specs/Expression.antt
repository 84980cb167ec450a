-- The value of an expression, or the faults of all that it evaluates.
use Rattle.std.specs.Prelude.{ℤ, pos, negsuc, ◌+ℤ◌, ◌-ℤ◌, ◌*ℤ◌, ◌^◌, Bool, true, false, not, ◌||◌, ◌&&◌, ◌==◌, nat_lt, List, [], ◌∷◌, if◌then◌else◌, Result, Ok, Err}
use Rattle.std.specs.Int.RustNames.{int_div, int_rem}
use Rattle.std.specs.declared.cmp.Ordering.{Ordering}
use Rattle.std.specs.Ordering.{is_eq, is_ne, is_lt, is_le, is_gt, is_ge}
use Rattle.castor_val.specs.declared.value.Value.{Value}
use Rattle.castor_val.specs.declared.value.Value.TheVariants.{Int, Bool as Truth, Text}
use Rattle.castor_val.specs.declared.fault.Faults.{Faults}
use Rattle.castor_val.specs.declared.row.Row.{Row}
use Rattle.castor_val.specs.Values.{column, class, is_int, value_cmp, union, division_fault, overflow_fault}
use Rattle.castor_alg.specs.declared.expr.Op.{Op}
use Rattle.castor_alg.specs.declared.expr.Op.TheVariants.{Or, And, Eq, Ne, Lt, Le, Gt, Ge, Add, Sub, Mul, Div, Rem}
use Rattle.castor_alg.specs.declared.expr.Expr.{Expr, fold-Expr}
use Rattle.castor_alg.specs.declared.expr.Expr.TheOpen.{Expr-F, Col, Scope, Param, Lit, Bin, Not, If}
use Rattle.castor_alg.specs.Scopes.{Scopes}

-- a value, or a set of faults
abbrev pub Answer : Type 0
Answer = Result Value Faults

-- what an operation on values of other types than its own gives
abbrev pub ill_typed : Answer
ill_typed = Ok (Truth false)

-- a whole number where it is an int, else an overflow
abbrev pub whole : ℤ → Answer
whole z = if is_int z then Ok (Int z) else Err overflow_fault

abbrev pub is_zero : ℤ → Bool
is_zero (pos n) = n == 0
is_zero (negsuc n) = false

-- truncated toward zero
abbrev pub quotient : ℤ → ℤ → Answer
quotient a b = if is_zero b then Err division_fault else whole (int_div a b)

-- what that leaves, with the sign of the dividend
abbrev pub remainder : ℤ → ℤ → Answer
remainder a b = if is_zero b then Err division_fault else Ok (Int (int_rem a b))

abbrev pub on_bools : (Bool → Bool → Bool) → Value → Value → Answer
on_bools f (Truth a) (Truth b) = Ok (Truth (f a b))
on_bools f (Truth a) (Int y) = ill_typed
on_bools f (Truth a) (Text t) = ill_typed
on_bools f (Int x) b = ill_typed
on_bools f (Text s) b = ill_typed

abbrev pub on_ints : (ℤ → ℤ → Answer) → Value → Value → Answer
on_ints f (Int a) (Int b) = f a b
on_ints f (Int a) (Truth y) = ill_typed
on_ints f (Int a) (Text t) = ill_typed
on_ints f (Truth x) b = ill_typed
on_ints f (Text s) b = ill_typed

-- a test on the order of two values of one type
abbrev pub compared : (Ordering → Bool) → Value → Value → Answer
compared test a b = if class a == class b then Ok (Truth (test (value_cmp a b))) else ill_typed

-- the value of a binary operator on the values of its sides
abbrev pub apply : Op → Value → Value → Answer
apply Or a b = on_bools (λ x y. x || y) a b
apply And a b = on_bools (λ x y. x && y) a b
apply Eq a b = compared is_eq a b
apply Ne a b = compared is_ne a b
apply Lt a b = compared is_lt a b
apply Le a b = compared is_le a b
apply Gt a b = compared is_gt a b
apply Ge a b = compared is_ge a b
apply Add a b = on_ints (λ x y. whole (x +ℤ y)) a b
apply Sub a b = on_ints (λ x y. whole (x -ℤ y)) a b
apply Mul a b = on_ints (λ x y. whole (x *ℤ y)) a b
apply Div a b = on_ints quotient a b
apply Rem a b = on_ints remainder a b

-- both sides are evaluated, and where one faults the faults of both are joined
abbrev pub both_sides : (Value → Value → Answer) → Answer → Answer → Answer
both_sides f (Ok a) (Ok b) = f a b
both_sides f (Ok a) (Err y) = Err y
both_sides f (Err x) (Ok b) = Err x
both_sides f (Err x) (Err y) = Err (union x y)

abbrev pub negated : Value → Answer
negated (Truth b) = Ok (Truth (not b))
negated (Int z) = ill_typed
negated (Text t) = ill_typed

abbrev pub negation : Answer → Answer
negation (Ok a) = negated a
negation (Err x) = Err x

abbrev pub chosen : Value → Answer → Answer → Answer
chosen (Truth true) a b = a
chosen (Truth false) a b = b
chosen (Int z) a b = ill_typed
chosen (Text t) a b = ill_typed

-- the condition, and then the chosen side alone
abbrev pub choice : Answer → Answer → Answer → Answer
choice (Ok c) a b = chosen c a b
choice (Err x) a b = Err x

-- what an expression means takes the row, the environment and the parameters
abbrev pub ExprMeaning : Type 0
ExprMeaning = Row → Scopes → Row → Answer

-- one node of an expression, over what its parts mean
abbrev pub expr_step : Expr-F ExprMeaning → ExprMeaning
expr_step (Col i) row env params = Ok (column row i)
expr_step (Scope k i) row env params = Ok (column (env k) i)
expr_step (Param i) row env params = Ok (column params i)
expr_step (Lit v) row env params = Ok v
expr_step (Bin op a b) row env params = both_sides (apply op) (a row env params) (b row env params)
expr_step (Not a) row env params = negation (a row env params)
expr_step (If c a b) row env params = choice (c row env params) (a row env params) (b row env params)

-- the value of an expression over a row, an environment and parameters, or its faults
abbrev pub expr_value : Expr → ExprMeaning
expr_value e = fold-Expr ExprMeaning expr_step e

-- one more value in front, where nothing faults
abbrev pub put_front : Answer → Result Row Faults → Result Row Faults
put_front (Ok v) (Ok row) = Ok (v ∷ row)
put_front (Ok v) (Err f) = Err f
put_front (Err f) (Ok row) = Err f
put_front (Err f) (Err g) = Err (union f g)

-- the values of all the expressions where none faults, else the faults of all
abbrev pub expr_values : List Expr → Row → Scopes → Row → Result Row Faults
expr_values [] row env params = Ok []
expr_values (e ∷ es) row env params = put_front (expr_value e row env params) (expr_values es row env params)
