-- The values of well-typed expressions are of their types.
use Rattle.std.proofs.Common.{◌≡◌, ◌∙◌, ℕ, zero, suc, ◌<◌, ◌≤◌, ◌^◌, ℤ, pos, negsuc, ◌+ℤ◌, ◌-ℤ◌, ◌*ℤ◌, List, [], ◌∷◌, Bool, true, false, ◌&&◌, ◌||◌, ◌==◌, refl, sym, ap, subst, Option, Some, slice_get, Result, Ok, Err, if◌then◌else◌, arith}
use Rattle.std.specs.Int.RustNames.{int_div, int_rem, unsigned_abs}
use Rattle.std.specs.declared.cmp.Ordering.{Ordering}
use Rattle.std.specs.Ordering.{is_eq, is_ne, is_lt, is_le, is_gt, is_ge}
use Rattle.std.proofs.lemmas.Bool.{and_from, and_parts, lt-ltb, ltb-true}
use Rattle.std.proofs.lemmas.Int.{rem_below}
use Rattle.castor_val.specs.declared.fault.Faults.{Faults}
use Rattle.castor_val.specs.declared.row.Row.{Row}
use Rattle.castor_val.specs.declared.value.Ty.{Ty}
use Rattle.castor_val.specs.declared.value.Ty.TheVariants as ty
use Rattle.castor_val.specs.declared.value.Value.{Value}
use Rattle.castor_val.specs.declared.value.Value.TheVariants.{Int, Bool as Truth, Text}
use Rattle.castor_val.specs.Values.{class, column, has_type, is_int, is_within_limits, row_fits, type_of_value, value_cmp, value_fits}
use Rattle.castor_alg.specs.declared.context.Context.{Context}
use Rattle.castor_alg.specs.declared.expr.Expr.{Expr}
use Rattle.castor_alg.specs.declared.expr.Op.{Op}
use Rattle.castor_alg.specs.declared.expr.Op.TheVariants.{Or, And, Eq, Ne, Lt, Le, Gt, Ge, Add, Sub, Mul, Div, Rem}
use Rattle.castor_alg.specs.Expression.{Answer, apply, both_sides, choice, chosen, compared, expr_value, expr_values, ill_typed, is_zero, negated, negation, on_bools, on_ints, put_front, quotient, remainder, whole}
use Rattle.castor_alg.specs.Fits.{ScopesFit}
use Rattle.castor_alg.specs.Rows.{row_in}
use Rattle.castor_alg.specs.Scopes.{Scopes}
use Rattle.castor_alg.specs.Typing.{agreed, allowed, choice_type, is_of, negation_type, operator_type, scope_types, type_under, types_of_each}
use Rattle.castor_alg.proofs.ExprInduction.{expr_induction}
use Rattle.castor_laws.specs.Fitting.{ValueFits, answer_fits, answers_fit}
use Rattle.castor_laws.proofs.EachLaws.{Each, none, one}
use Rattle.castor_laws.proofs.ExprClauseLaws.{expr_value-Col, expr_value-Scope, expr_value-Param, expr_value-Lit, expr_value-Bin, expr_value-Not, expr_value-If}
use Rattle.castor_laws.proofs.TypeClauseLaws.{type_under-Col, type_under-Scope, type_under-Param, type_under-Lit, type_under-Bin, type_under-Not, type_under-If}
use Rattle.castor_laws.proofs.TypePartLaws.{agreed_parts, allowed_parts, and_then_parts, both_parts, if_parts, is_of-equal}

-- the value in a column that is there is of the column's type
pub column_fits : (row : Row) (types : List Ty) (i : ℕ) (t : Ty) → row_fits row types ≡ true → slice_get types i ≡ Some t → value_fits (column row i) t ≡ true
column_fits row [] i t fits is = cc
column_fits [] (u ∷ types) i t fits is = cc
column_fits (v ∷ row) (u ∷ types) zero t fits is =
    let same : u ≡ t = cc in
    subst (λ s. value_fits v s ≡ true) same (and_parts (value_fits v u) (row_fits row types) fits).0
column_fits (v ∷ row) (u ∷ types) (suc i) t fits is = column_fits row types i t (and_parts (value_fits v u) (row_fits row types) fits).1 is

int_fits : (z : ℤ) → is_int z ≡ true → value_fits (Int z) ty.Int ≡ true
int_fits z is = is

whole_at : (z : ℤ) (b : Bool) → is_int z ≡ b → (f : Faults) → answer_fits (if b then Ok (Int z) else Err f) ty.Int ≡ true
whole_at z true is f = int_fits z is
whole_at z false is f = refl

pub whole_fits : (z : ℤ) → answer_fits (whole z) ty.Int ≡ true
whole_fits z = whole_at z (is_int z) refl _

quotient_at : (x y : ℤ) (b : Bool) (f : Faults) → answer_fits (if b then Err f else whole (int_div x y)) ty.Int ≡ true
quotient_at x y true f = refl
quotient_at x y false f = whole_fits (int_div x y)

quotient_fits : (x y : ℤ) → answer_fits (quotient x y) ty.Int ≡ true
quotient_fits x y = quotient_at x y (is_zero y) _

-- the rest is nearer to zero than the divisor
small_is_int : (z : ℤ) → unsigned_abs z < 2 ^ 63 → is_int z ≡ true
small_is_int (pos n) small = lt-ltb n (2 ^ 63) small
small_is_int (negsuc n) small = lt-ltb n (2 ^ 63) (omega arith)

int_is_small : (z : ℤ) → is_int z ≡ true → unsigned_abs z ≤ 2 ^ 63
int_is_small (pos n) is = let below = ltb-true n (2 ^ 63) is in omega arith
int_is_small (negsuc n) is = let below = ltb-true n (2 ^ 63) is in omega arith

nonzero : (z : ℤ) → is_zero z ≡ false → 0 < unsigned_abs z
nonzero (pos zero) is = cc
nonzero (pos (suc n)) is = omega arith
nonzero (negsuc n) is = omega arith

remainder_at : (x y : ℤ) (b : Bool) → is_zero y ≡ b → is_int y ≡ true → (f : Faults) → answer_fits (if b then Err f else Ok (Int (int_rem x y))) ty.Int ≡ true
remainder_at x y true zero_is int f = refl
remainder_at x y false zero_is int f =
    let below = rem_below x y (nonzero y zero_is) in
    let small = int_is_small y int in
    int_fits (int_rem x y) (small_is_int (int_rem x y) (omega arith))

-- connectives, comparisons and negations give bools
connected_fits : (f : Bool → Bool → Bool) (a b : Value) → answer_fits (on_bools f a b) ty.Bool ≡ true
connected_fits f (Truth a) (Truth b) = refl
connected_fits f (Truth a) (Int y) = refl
connected_fits f (Truth a) (Text t) = refl
connected_fits f (Int x) b = refl
connected_fits f (Text s) b = refl

compared_at : (same truth : Bool) → answer_fits (if same then Ok (Truth truth) else ill_typed) ty.Bool ≡ true
compared_at true truth = refl
compared_at false truth = refl

compared_fits : (test : Ordering → Bool) (a b : Value) → answer_fits (compared test a b) ty.Bool ≡ true
compared_fits test a b = compared_at (class a == class b) (test (value_cmp a b))

negated_fits : (a : Value) → answer_fits (negated a) ty.Bool ≡ true
negated_fits (Int z) = refl
negated_fits (Truth b) = refl
negated_fits (Text t) = refl

-- arithmetic on ints gives ints
computed_fits : (f : ℤ → ℤ → Answer) → ((x y : ℤ) → is_int y ≡ true → answer_fits (f x y) ty.Int ≡ true) → (a b : Value) → value_fits a ty.Int ≡ true → value_fits b ty.Int ≡ true → answer_fits (on_ints f a b) ty.Int ≡ true
computed_fits f holds (Int x) (Int y) left right = holds x y right
computed_fits f holds (Int x) (Truth y) left right = cc
computed_fits f holds (Int x) (Text t) left right = cc
computed_fits f holds (Truth x) b left right = cc
computed_fits f holds (Text s) b left right = cc

-- the type that the part has, if it has one, is that of its value
abbrev FitsIn : Value → Option Ty → Type 0
FitsIn v o = (t : Ty) → o ≡ Some t → value_fits v t ≡ true

as_bool : (answer : Answer) (condition : Bool) (t : Ty) → allowed condition ty.Bool ≡ Some t → answer_fits answer ty.Bool ≡ true → answer_fits answer t ≡ true
as_bool answer condition t typed fits = subst (λ u. answer_fits answer u ≡ true) (allowed_parts condition ty.Bool t typed).1 fits

as_int : (f : ℤ → ℤ → Answer) → ((x y : ℤ) → is_int y ≡ true → answer_fits (f x y) ty.Int ≡ true) → (ta tb : Option Ty) (t : Ty) (a b : Value) → allowed (is_of ty.Int ta && is_of ty.Int tb) ty.Int ≡ Some t → FitsIn a ta → FitsIn b tb → answer_fits (on_ints f a b) t ≡ true
as_int f holds ta tb t a b typed left right =
    let parts = allowed_parts (is_of ty.Int ta && is_of ty.Int tb) ty.Int t typed in
    let sides = and_parts (is_of ty.Int ta) (is_of ty.Int tb) parts.0 in
    subst (λ u. answer_fits (on_ints f a b) u ≡ true) parts.1 (computed_fits f holds a b (left ty.Int (is_of-equal ty.Int ta sides.0)) (right ty.Int (is_of-equal ty.Int tb sides.1)))

applied_fits : (op : Op) (ta tb : Option Ty) (t : Ty) (a b : Value) → operator_type op ta tb ≡ Some t → FitsIn a ta → FitsIn b tb → answer_fits (apply op a b) t ≡ true
applied_fits Or ta tb t a b typed left right = as_bool (apply Or a b) _ t typed (connected_fits (λ x y. x || y) a b)
applied_fits And ta tb t a b typed left right = as_bool (apply And a b) _ t typed (connected_fits (λ x y. x && y) a b)
applied_fits Eq ta tb t a b typed left right = as_bool (apply Eq a b) _ t typed (compared_fits is_eq a b)
applied_fits Ne ta tb t a b typed left right = as_bool (apply Ne a b) _ t typed (compared_fits is_ne a b)
applied_fits Lt ta tb t a b typed left right = as_bool (apply Lt a b) _ t typed (compared_fits is_lt a b)
applied_fits Le ta tb t a b typed left right = as_bool (apply Le a b) _ t typed (compared_fits is_le a b)
applied_fits Gt ta tb t a b typed left right = as_bool (apply Gt a b) _ t typed (compared_fits is_gt a b)
applied_fits Ge ta tb t a b typed left right = as_bool (apply Ge a b) _ t typed (compared_fits is_ge a b)
applied_fits Add ta tb t a b typed left right = as_int (λ x y. whole (x +ℤ y)) (λ x y int. whole_fits (x +ℤ y)) ta tb t a b typed left right
applied_fits Sub ta tb t a b typed left right = as_int (λ x y. whole (x -ℤ y)) (λ x y int. whole_fits (x -ℤ y)) ta tb t a b typed left right
applied_fits Mul ta tb t a b typed left right = as_int (λ x y. whole (x *ℤ y)) (λ x y int. whole_fits (x *ℤ y)) ta tb t a b typed left right
applied_fits Div ta tb t a b typed left right = as_int quotient (λ x y int. quotient_fits x y) ta tb t a b typed left right
applied_fits Rem ta tb t a b typed left right = as_int remainder (λ x y int. remainder_at x y (is_zero y) refl int _) ta tb t a b typed left right

-- the same of answers
abbrev AnswerFitsIn : Answer → Option Ty → Type 0
AnswerFitsIn answer o = (t : Ty) → o ≡ Some t → answer_fits answer t ≡ true

operator_fits : (op : Op) (ta tb : Option Ty) (t : Ty) (x y : Answer) → operator_type op ta tb ≡ Some t → AnswerFitsIn x ta → AnswerFitsIn y tb → answer_fits (both_sides (apply op) x y) t ≡ true
operator_fits op ta tb t (Ok a) (Ok b) typed left right = applied_fits op ta tb t a b typed left right
operator_fits op ta tb t (Ok a) (Err g) typed left right = refl
operator_fits op ta tb t (Err f) (Ok b) typed left right = refl
operator_fits op ta tb t (Err f) (Err g) typed left right = refl

negation_fits : (ta : Option Ty) (t : Ty) (x : Answer) → negation_type ta ≡ Some t → answer_fits (negation x) t ≡ true
negation_fits ta t (Ok a) typed = as_bool (negated a) (is_of ty.Bool ta) t typed (negated_fits a)
negation_fits ta t (Err f) typed = refl

chosen_fits : (c : Value) (x y : Answer) (t : Ty) → value_fits c ty.Bool ≡ true → answer_fits x t ≡ true → answer_fits y t ≡ true → answer_fits (chosen c x y) t ≡ true
chosen_fits (Int z) x y t test left right = cc
chosen_fits (Truth true) x y t test left right = left
chosen_fits (Truth false) x y t test left right = right
chosen_fits (Text s) x y t test left right = cc

choice_fits : (tc ta tb : Option Ty) (t : Ty) (w x y : Answer) → choice_type tc ta tb ≡ Some t → AnswerFitsIn w tc → AnswerFitsIn x ta → AnswerFitsIn y tb → answer_fits (choice w x y) t ≡ true
choice_fits tc ta tb t (Ok c) x y typed test left right =
    let parts = if_parts (is_of ty.Bool tc) (agreed ta tb) t typed in
    let sides = agreed_parts ta tb t parts.1 in
    chosen_fits c x y t (test ty.Bool (is_of-equal ty.Bool tc parts.0)) (left t sides.0) (right t sides.1)
choice_fits tc ta tb t (Err f) x y typed test left right = refl

own_type : (v : Value) → has_type v (type_of_value v) ≡ true
own_type (Int z) = refl
own_type (Truth b) = refl
own_type (Text s) = refl

literal_fits : (v : Value) (t : Ty) → allowed (is_within_limits v) (type_of_value v) ≡ Some t → value_fits v t ≡ true
literal_fits v t typed =
    let parts = allowed_parts (is_within_limits v) (type_of_value v) t typed in
    subst (λ u. value_fits v u ≡ true) parts.1 (and_from (has_type v (type_of_value v)) (is_within_limits v) (own_type v) parts.0)

pub values_fit_types : (e : Expr) → ValueFits e
values_fit_types = expr_induction ValueFits record {
  col = λ i columns context t typed row env p fits scopes params.
      ap (λ a. answer_fits a t) (expr_value-Col row env p i) ∙ column_fits row columns i t fits (sym (type_under-Col columns context i) ∙ typed);
  scope = λ k i columns context t typed row env p fits scopes params.
      let found = and_then_parts (λ types. slice_get types i) (scope_types context.scopes k) t (sym (type_under-Scope columns context k i) ∙ typed) in
      ap (λ a. answer_fits a t) (expr_value-Scope row env p k i) ∙ column_fits (env k) found.0 i t (scopes k found.0 found.1) found.2;
  param = λ i columns context t typed row env p fits scopes params.
      ap (λ a. answer_fits a t) (expr_value-Param row env p i) ∙ column_fits p context.params i t params (sym (type_under-Param columns context i) ∙ typed);
  lit = λ v columns context t typed row env p fits scopes params.
      ap (λ a. answer_fits a t) (expr_value-Lit row env p v) ∙ literal_fits v t (sym (type_under-Lit columns context v) ∙ typed);
  bin = λ op a b x y columns context t typed row env p fits scopes params.
      ap (λ a. answer_fits a t) (expr_value-Bin row env p op a b)
      ∙ operator_fits op (type_under a columns context) (type_under b columns context) t (expr_value a row env p) (expr_value b row env p) (sym (type_under-Bin columns context op a b) ∙ typed)
      (λ u is. x columns context u is row env p fits scopes params) (λ u is. y columns context u is row env p fits scopes params);
  not = λ a x columns context t typed row env p fits scopes params.
      ap (λ a. answer_fits a t) (expr_value-Not row env p a) ∙ negation_fits (type_under a columns context) t (expr_value a row env p) (sym (type_under-Not columns context a) ∙ typed);
  cond = λ c a b w x y columns context t typed row env p fits scopes params.
      ap (λ a. answer_fits a t) (expr_value-If row env p c a b)
      ∙ choice_fits (type_under c columns context) (type_under a columns context) (type_under b columns context) t (expr_value c row env p) (expr_value a row env p) (expr_value b row env p) (sym (type_under-If columns context c a b) ∙ typed)
      (λ u is. w columns context u is row env p fits scopes params) (λ u is. x columns context u is row env p fits scopes params) (λ u is. y columns context u is row env p fits scopes params);
}

pub put_front_fits : (a : Answer) (r : Result Row Faults) (t : Ty) (types : List Ty) → answer_fits a t ≡ true → answers_fit r types ≡ true → answers_fit (put_front a r) (t ∷ types) ≡ true
put_front_fits (Ok v) (Ok row) t types first rest = and_from (value_fits v t) (row_fits row types) first rest
put_front_fits (Ok v) (Err f) t types first rest = refl
put_front_fits (Err f) (Ok row) t types first rest = refl
put_front_fits (Err f) (Err g) t types first rest = refl

-- and the values of several expressions are a row of their types
pub rows_of_values_fit : (es : List Expr) (columns : List Ty) (context : Context) (types : List Ty) → types_of_each es columns context ≡ Some types → (row : Row) (env : Scopes) (p : Row) → row_fits row columns ≡ true → ScopesFit env context.scopes → row_fits p context.params ≡ true → answers_fit (expr_values es row env p) types ≡ true
rows_of_values_fit [] columns context types typed row env p fits scopes params = let same : [] ≡ types = cc in subst (λ ts. row_fits [] ts ≡ true) same refl
rows_of_values_fit (e ∷ es) columns context types typed row env p fits scopes params =
    let parts = both_parts (λ t ts. t ∷ ts) (type_under e columns context) (types_of_each es columns context) types typed in
    subst (λ ts. answers_fit (expr_values (e ∷ es) row env p) ts ≡ true) parts.4
    (put_front_fits (expr_value e row env p) (expr_values es row env p) parts.0 parts.1
    (values_fit_types e columns context parts.0 parts.2 row env p fits scopes params)
    (rows_of_values_fit es columns context parts.1 parts.3 row env p fits scopes params))

-- the rows are all of the types
abbrev pub AllFit : List Ty → List Row → Type 0
AllFit types rows = Each (λ row. row_fits row types ≡ true) rows

pub row_in_fits : (r : Result Row Faults) (types : List Ty) → answers_fit r types ≡ true → AllFit types (row_in r)
row_in_fits (Ok row) types fits = one fits none
row_in_fits (Err f) types fits = none
