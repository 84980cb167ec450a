-- An expression that gives no value has a fault, and what has no faults has none in its parts.
use Rattle.std.proofs.Common.{◌≡◌, ◌∙◌, ℤ, ◌+ℤ◌, ◌-ℤ◌, ◌*ℤ◌, List, ◌∷◌, Bool, true, false, ◌&&◌, ◌||◌, ◌==◌, refl, ap, Ok, Err, if◌then◌else◌}
use Rattle.std.specs.Int.RustNames.{int_div, int_rem}
use Rattle.std.specs.declared.cmp.Ordering.{Ordering}
use Rattle.std.specs.Ordering.{is_eq, is_ne, is_lt, is_le, is_gt, is_ge}
use Rattle.castor_val.specs.declared.fault.Faults.{Faults}
use Rattle.castor_val.specs.declared.row.Row.{Row}
use Rattle.castor_val.specs.declared.value.Value.{Value}
use Rattle.castor_val.specs.declared.value.Value.TheVariants.{Int, Bool as Truth, Text}
use Rattle.castor_val.specs.Values.{class, division_fault, has_faults, is_int, no_faults, overflow_fault, union, value_cmp}
use Rattle.castor_alg.specs.declared.expr.Expr.{Expr}
use Rattle.castor_alg.specs.declared.expr.Op.{Op}
use Rattle.castor_alg.specs.declared.expr.Op.TheVariants.{Or, And, Eq, Ne, Lt, Le, Gt, Ge, Add, Sub, Mul, Div, Rem}
use Rattle.castor_alg.specs.Expression.{Answer, apply, both_sides, choice, chosen, compared, expr_value, ill_typed, is_zero, negated, negation, on_bools, on_ints, quotient, remainder, whole}
use Rattle.castor_alg.specs.Rows.{faults_in, union_over}
use Rattle.castor_alg.specs.Scopes.{Scopes}
use Rattle.castor_alg.proofs.ExprInduction.{expr_induction}
use Rattle.castor_laws.proofs.ExprClauseLaws.{expr_value-Col, expr_value-Scope, expr_value-Param, expr_value-Lit, expr_value-Bin, expr_value-Not, expr_value-If}

or_left : (a b : Bool) → (a || b) ≡ false → a ≡ false
or_left true b is = cc
or_left false b is = refl

or_right : (a b : Bool) → (a || b) ≡ false → b ≡ false
or_right true b is = cc
or_right false b is = is

no_faults_by : (f : Faults) → f.division ≡ false → f.overflow ≡ false → f.norows ≡ false → f ≡ no_faults
no_faults_by f d o n = λ i. record { division = d i; overflow = o i; norows = n i }

module _ (f g : Faults) (none : union f g ≡ no_faults) where
  divisions : (f.division || g.division) ≡ false
  divisions = ap (λ (h : Faults). h.division) none

  overflows : (f.overflow || g.overflow) ≡ false
  overflows = ap (λ (h : Faults). h.overflow) none

  empties : (f.norows || g.norows) ≡ false
  empties = ap (λ (h : Faults). h.norows) none

  -- where two sets have no fault together, the first has none
  pub none_left : f ≡ no_faults
  none_left = no_faults_by f (or_left f.division g.division divisions) (or_left f.overflow g.overflow overflows) (or_left f.norows g.norows empties)

  -- and the second has none
  pub none_right : g ≡ no_faults
  none_right = no_faults_by g (or_right f.division g.division divisions) (or_right f.overflow g.overflow overflows) (or_right f.norows g.norows empties)

-- the faults of one element and of the others
pub union_over-cons : {X : Type 0} (f : X → Faults) (x : X) (xs : List X) → union_over f (x ∷ xs) ≡ union (f x) (union_over f xs)
union_over-cons f x xs = refl

-- whether an answer is a value or has a fault
abbrev told : Answer → Bool
told (Ok v) = true
told (Err f) = has_faults f

abbrev Told : Answer → Type 0
Told answer = told answer ≡ true

whole_at : (z : ℤ) (b : Bool) → Told (if b then Ok (Int z) else Err overflow_fault)
whole_at z true = refl
whole_at z false = refl

whole_told : (z : ℤ) → Told (whole z)
whole_told z = whole_at z (is_int z)

quotient_at : (x y : ℤ) (b : Bool) → Told (if b then Err division_fault else whole (int_div x y))
quotient_at x y true = refl
quotient_at x y false = whole_told (int_div x y)

quotient_told : (x y : ℤ) → Told (quotient x y)
quotient_told x y = quotient_at x y (is_zero y)

remainder_at : (x y : ℤ) (b : Bool) → Told (if b then Err division_fault else Ok (Int (int_rem x y)))
remainder_at x y true = refl
remainder_at x y false = refl

remainder_told : (x y : ℤ) → Told (remainder x y)
remainder_told x y = remainder_at x y (is_zero y)

connected_told : (f : Bool → Bool → Bool) (a b : Value) → Told (on_bools f a b)
connected_told f (Truth a) (Truth b) = refl
connected_told f (Truth a) (Int y) = refl
connected_told f (Truth a) (Text t) = refl
connected_told f (Int x) b = refl
connected_told f (Text s) b = refl

compared_at : (same truth : Bool) → Told (if same then Ok (Truth truth) else ill_typed)
compared_at true truth = refl
compared_at false truth = refl

compared_told : (test : Ordering → Bool) (a b : Value) → Told (compared test a b)
compared_told test a b = compared_at (class a == class b) (test (value_cmp a b))

computed_told : (f : ℤ → ℤ → Answer) → ((x y : ℤ) → Told (f x y)) → (a b : Value) → Told (on_ints f a b)
computed_told f holds (Int x) (Int y) = holds x y
computed_told f holds (Int x) (Truth y) = refl
computed_told f holds (Int x) (Text t) = refl
computed_told f holds (Truth x) b = refl
computed_told f holds (Text s) b = refl

applied_told : (op : Op) (a b : Value) → Told (apply op a b)
applied_told Or a b = connected_told (λ x y. x || y) a b
applied_told And a b = connected_told (λ x y. x && y) a b
applied_told Eq a b = compared_told is_eq a b
applied_told Ne a b = compared_told is_ne a b
applied_told Lt a b = compared_told is_lt a b
applied_told Le a b = compared_told is_le a b
applied_told Gt a b = compared_told is_gt a b
applied_told Ge a b = compared_told is_ge a b
applied_told Add a b = computed_told (λ x y. whole (x +ℤ y)) (λ x y. whole_told (x +ℤ y)) a b
applied_told Sub a b = computed_told (λ x y. whole (x -ℤ y)) (λ x y. whole_told (x -ℤ y)) a b
applied_told Mul a b = computed_told (λ x y. whole (x *ℤ y)) (λ x y. whole_told (x *ℤ y)) a b
applied_told Div a b = computed_told quotient quotient_told a b
applied_told Rem a b = computed_told remainder remainder_told a b

some_fault : (a b c d e f : Bool) → (a || (b || c)) ≡ true → ((a || d) || ((b || e) || (c || f))) ≡ true
some_fault true b c d e f is = refl
some_fault false true c true e f is = refl
some_fault false true c false e f is = refl
some_fault false false true true e f is = refl
some_fault false false true false true f is = refl
some_fault false false true false false f is = refl
some_fault false false false d e f is = cc

sides_told : (op : Op) (x y : Answer) → Told x → Told y → Told (both_sides (apply op) x y)
sides_told op (Ok a) (Ok b) left right = applied_told op a b
sides_told op (Ok a) (Err g) left right = right
sides_told op (Err f) (Ok b) left right = left
sides_told op (Err f) (Err g) left right = some_fault f.division f.overflow f.norows g.division g.overflow g.norows left

negated_told : (a : Value) → Told (negated a)
negated_told (Int z) = refl
negated_told (Truth b) = refl
negated_told (Text t) = refl

negation_told : (x : Answer) → Told x → Told (negation x)
negation_told (Ok a) part = negated_told a
negation_told (Err f) part = part

chosen_told : (c : Value) (x y : Answer) → Told x → Told y → Told (chosen c x y)
chosen_told (Int z) x y left right = refl
chosen_told (Truth true) x y left right = left
chosen_told (Truth false) x y left right = right
chosen_told (Text s) x y left right = refl

choice_told : (w x y : Answer) → Told w → Told x → Told y → Told (choice w x y)
choice_told (Ok c) x y test left right = chosen_told c x y left right
choice_told (Err f) x y test left right = test

abbrev IsTold : Expr → Type 0
IsTold e = (row : Row) (env : Scopes) (p : Row) → Told (expr_value e row env p)

expr_told : (e : Expr) → IsTold e
expr_told = expr_induction IsTold record {
  col = λ i row env p. ap told (expr_value-Col row env p i);
  scope = λ k i row env p. ap told (expr_value-Scope row env p k i);
  param = λ i row env p. ap told (expr_value-Param row env p i);
  lit = λ v row env p. ap told (expr_value-Lit row env p v);
  bin = λ op a b x y row env p. ap told (expr_value-Bin row env p op a b) ∙ sides_told op (expr_value a row env p) (expr_value b row env p) (x row env p) (y row env p);
  not = λ a x row env p. ap told (expr_value-Not row env p a) ∙ negation_told (expr_value a row env p) (x row env p);
  cond = λ c a b w x y row env p. ap told (expr_value-If row env p c a b) ∙ choice_told (expr_value c row env p) (expr_value a row env p) (expr_value b row env p) (w row env p) (x row env p) (y row env p);
}

value_at : (answer : Answer) → Told answer → faults_in answer ≡ no_faults → (v : Value) × (answer ≡ Ok v)
value_at (Ok v) is none = (v, refl)
value_at (Err f) is none = let has : has_faults f ≡ false = ap has_faults none in absurd cc

-- an expression without faults has a value
pub has_value : (e : Expr) (row : Row) (env : Scopes) (p : Row) → faults_in (expr_value e row env p) ≡ no_faults → (v : Value) × (expr_value e row env p ≡ Ok v)
has_value e row env p none = value_at (expr_value e row env p) (expr_told e row env p) none

-- where a set has no fault by test
pub none_by_test : (f : Faults) → has_faults f ≡ false → f ≡ no_faults
none_by_test f is =
    let rest = or_right f.division (f.overflow || f.norows) is in
    no_faults_by f (or_left f.division (f.overflow || f.norows) is) (or_left f.overflow f.norows rest) (or_right f.overflow f.norows rest)
