-- Total expressions have values.
use Rattle.std.proofs.Common.{◌≡◌, ◌∙◌, refl, sym, List, [], ◌∷◌, Bool, true, false, ◌&&◌, ◌||◌, ◌==◌, Result, Ok}
use Rattle.std.specs.Prelude.{if◌then◌else◌}
use Rattle.std.specs.List.{list_all}
use Rattle.std.specs.declared.cmp.Ordering.{Ordering}
use Rattle.std.specs.Ordering.{is_eq, is_ne, is_lt, is_le, is_gt, is_ge}
use Rattle.std.proofs.lemmas.Bool.{and_parts}
use Rattle.castor_val.specs.declared.fault.Faults.{Faults}
use Rattle.castor_val.specs.declared.row.Row.{Row}
use Rattle.castor_val.specs.declared.value.Value.{Value}
use Rattle.castor_val.specs.declared.value.Value.TheVariants.{Int, Bool as Truth, Text}
use Rattle.castor_val.specs.Values.{class, value_cmp}
use Rattle.castor_alg.specs.declared.expr.Expr.{Expr}
use Rattle.castor_alg.specs.declared.expr.Op.{Op}
use Rattle.castor_alg.specs.declared.expr.Op.TheVariants.{Or, And, Eq, Ne, Lt, Le, Gt, Ge, Add, Sub, Mul, Div, Rem}
use Rattle.castor_alg.specs.declared.rel.Bound.{Bound}
use Rattle.castor_alg.specs.declared.rel.Bound.TheVariants.{Any, Incl, Excl}
use Rattle.castor_alg.specs.Expression.{Answer, apply, both_sides, choice, chosen, compared, expr_values, ill_typed, negated, negation, on_bools, put_front}
use Rattle.castor_alg.specs.Indexes.{compares, lower, upper}
use Rattle.castor_alg.specs.Scopes.{Scopes}
use Rattle.castor_alg.specs.Totality.{is_total_bound, is_total_expr, is_total_op, total_expr_step}
use Rattle.castor_alg.proofs.ExprInduction.{expr_induction, fold-Bin, fold-Not, fold-If}
use Rattle.castor_laws.specs.Faultless.{GivesValue, HasValue}
use Rattle.castor_laws.proofs.ExprClauseLaws.{expr_value-Col, expr_value-Scope, expr_value-Param, expr_value-Lit, expr_value-Bin, expr_value-Not, expr_value-If}

-- connectives and comparisons give values
connected : (f : Bool → Bool → Bool) (a b : Value) → HasValue (on_bools f a b)
connected f (Truth a) (Truth b) = (_, refl)
connected f (Truth a) (Int y) = (_, refl)
connected f (Truth a) (Text t) = (_, refl)
connected f (Int x) b = (_, refl)
connected f (Text s) b = (_, refl)

either : (same : Bool) (v : Value) → HasValue (if same then Ok v else ill_typed)
either true v = (_, refl)
either false v = (_, refl)

comparison : (test : Ordering → Bool) (a b : Value) → HasValue (compared test a b)
comparison test a b = either (class a == class b) (Truth (test (value_cmp a b)))

applied : (op : Op) (a b : Value) → is_total_op op ≡ true → HasValue (apply op a b)
applied Or a b total = connected (λ x y. x || y) a b
applied And a b total = connected (λ x y. x && y) a b
applied Eq a b total = comparison is_eq a b
applied Ne a b total = comparison is_ne a b
applied Lt a b total = comparison is_lt a b
applied Le a b total = comparison is_le a b
applied Gt a b total = comparison is_gt a b
applied Ge a b total = comparison is_ge a b
applied Add a b total = cc
applied Sub a b total = cc
applied Mul a b total = cc
applied Div a b total = cc
applied Rem a b total = cc

applied_both : (op : Op) (x y : Answer) → is_total_op op ≡ true → HasValue x → HasValue y → HasValue (both_sides (apply op) x y)
applied_both op x y total (a, is) (b, other) = rw (is, other) (applied op a b total)

negated_value : (a : Value) → HasValue (negated a)
negated_value (Int z) = (_, refl)
negated_value (Truth b) = (_, refl)
negated_value (Text t) = (_, refl)

negation_value : (x : Answer) → HasValue x → HasValue (negation x)
negation_value x (a, is) = rw is (negated_value a)

chosen_value : (c : Value) (x y : Answer) → HasValue x → HasValue y → HasValue (chosen c x y)
chosen_value (Int z) x y left right = (_, refl)
chosen_value (Truth true) x y left right = left
chosen_value (Truth false) x y left right = right
chosen_value (Text t) x y left right = (_, refl)

choice_value : (w x y : Answer) → HasValue w → HasValue x → HasValue y → HasValue (choice w x y)
choice_value w x y (c, is) left right = rw is (chosen_value c x y left right)

pub total_gives_value : (e : Expr) → GivesValue e
total_gives_value = expr_induction GivesValue record {
  col = λ i total row env p. (_, expr_value-Col row env p i);
  scope = λ k i total row env p. (_, expr_value-Scope row env p k i);
  param = λ i total row env p. (_, expr_value-Param row env p i);
  lit = λ v total row env p. (_, expr_value-Lit row env p v);
  bin = λ op a b x y total row env p.
      let parts = and_parts (is_total_op op) (is_total_expr a && is_total_expr b) (sym (fold-Bin Bool total_expr_step op a b) ∙ total) in
      let sides = and_parts (is_total_expr a) (is_total_expr b) parts.1 in
      rw (expr_value-Bin row env p op a b) (applied_both op _ _ parts.0 (x sides.0 row env p) (y sides.1 row env p));
  not = λ a x total row env p.
      rw (expr_value-Not row env p a) (negation_value _ (x (sym (fold-Not Bool total_expr_step a) ∙ total) row env p));
  cond = λ c a b w x y total row env p.
      let parts = and_parts (is_total_expr c) (is_total_expr a && is_total_expr b) (sym (fold-If Bool total_expr_step c a b) ∙ total) in
      let sides = and_parts (is_total_expr a) (is_total_expr b) parts.1 in
      rw (expr_value-If row env p c a b) (choice_value _ _ _ (w parts.0 row env p) (x sides.0 row env p) (y sides.1 row env p));
}

pub put_front_value : (a : Answer) (row : Result Row Faults) → HasValue a → HasValue row → HasValue (put_front a row)
put_front_value a row (v, is) (vs, others) = rw (is, others) (v ∷ vs, refl)

-- and so have several total expressions
pub totals_give_values : (es : List Expr) → list_all is_total_expr es ≡ true → (row : Row) (env : Scopes) (p : Row) → HasValue (expr_values es row env p)
totals_give_values [] total row env p = ([], refl)
totals_give_values (e ∷ es) total row env p =
    let parts = and_parts (is_total_expr e) (list_all is_total_expr es) total in
    put_front_value _ _ (total_gives_value e parts.0 row env p) (totals_give_values es parts.1 row env p)

-- and total bounds have tests
tested : (test : Value → Value → Bool) (x : Answer) → HasValue x → HasValue (compares test x)
tested test x (v, is) = rw is (_, refl)

pub lower_gives_test : (lo : Bound) → is_total_bound lo ≡ true → (env : Scopes) (p : Row) → HasValue (lower lo env p)
lower_gives_test Any total env p = (_, refl)
lower_gives_test (Incl e) total env p = tested (λ v limit. is_ge (value_cmp v limit)) _ (total_gives_value e total [] env p)
lower_gives_test (Excl e) total env p = tested (λ v limit. is_gt (value_cmp v limit)) _ (total_gives_value e total [] env p)

pub upper_gives_test : (hi : Bound) → is_total_bound hi ≡ true → (env : Scopes) (p : Row) → HasValue (upper hi env p)
upper_gives_test Any total env p = (_, refl)
upper_gives_test (Incl e) total env p = tested (λ v limit. is_le (value_cmp v limit)) _ (total_gives_value e total [] env p)
upper_gives_test (Excl e) total env p = tested (λ v limit. is_lt (value_cmp v limit)) _ (total_gives_value e total [] env p)
