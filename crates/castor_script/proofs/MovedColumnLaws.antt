-- The values of items that are just columns.
use Rattle.std.proofs.Common.{◌≡◌, ◌∙◌, ℕ, zero, suc, ◌<◌, ◌==◌, ◌&&◌, List, [], ◌∷◌, length, get_or, refl, sym, ap, subst, cond, Bool, true, false, Option, Some, None, Result, Ok, Err, arith}
use Rattle.std.specs.Prelude.{position}
use Rattle.std.proofs.lemmas.Bool.{and_parts, eq-eqb, eqb-true}
use Rattle.std.proofs.lemmas.List.Quantifiers.{position-Some}
use Rattle.castor_val.specs.declared.fault.Faults.{Faults}
use Rattle.castor_val.specs.declared.row.Row.{Row}
use Rattle.castor_val.specs.declared.value.Value.{Value}
use Rattle.castor_val.specs.Values.{column}
use Rattle.castor_alg.specs.declared.expr.Expr.{Expr}
use Rattle.castor_alg.specs.declared.expr.Expr as E
use Rattle.castor_alg.specs.Expression.{Answer, expr_value, expr_values, put_front}
use Rattle.castor_alg.specs.Scopes.{Scopes, bind}
use Rattle.castor_alg.proofs.ExprInduction.{expr_induction, fold-Col, fold-Scope, fold-Param, fold-Lit, fold-Bin, fold-Not, fold-If}
use Rattle.castor_laws.proofs.ExprClauseLaws.{expr_value-Col, expr_value-Scope}
use Rattle.castor_script.specs.KnownKeys.{column_step, is_column, is_scope_column, scope_column_step}
use Rattle.castor_script.proofs.MovedKeyLaws.{HasMoved}

clash : {P : Type 0} (b : Bool) → b ≡ true → b ≡ false → P
clash b is isnt = cc

-- the value of an expression that is just a column
column_value : (c : ℕ) (row : Row) (env : Scopes) (params : Row) (e : Expr) → is_column c e ≡ true → expr_value e row env params ≡ Ok (column row c)
column_value c row env params = expr_induction (λ e. is_column c e ≡ true → expr_value e row env params ≡ Ok (column row c)) record {
  col = λ i is. expr_value-Col row env params i ∙ ap (λ n. Ok (column row n)) (eqb-true i c (sym (fold-Col Bool (column_step c) i) ∙ is));
  scope = λ j i is. clash (is_column c (E.Scope j i)) is (fold-Scope Bool (column_step c) j i);
  param = λ i is. clash (is_column c (E.Param i)) is (fold-Param Bool (column_step c) i);
  lit = λ v is. clash (is_column c (E.Lit v)) is (fold-Lit Bool (column_step c) v);
  bin = λ op a b x y is. clash (is_column c (E.Bin op a b)) is (fold-Bin Bool (column_step c) op a b);
  not = λ a x is. clash (is_column c (E.Not a)) is (fold-Not Bool (column_step c) a);
  cond = λ t a b w x y is. clash (is_column c (E.If t a b)) is (fold-If Bool (column_step c) t a b);
}

-- the scope that is bound has the row
bound_row : (env : Scopes) (k j : ℕ) (row : Row) → j ≡ k → bind env k row j ≡ row
bound_row env k j row is = ap (λ b. cond b row (env j)) (eq-eqb k j (sym is))

-- the value of an expression that is just a column of the scope that is bound
scope_value : (k c : ℕ) (bound row : Row) (env : Scopes) (params : Row) (e : Expr) → is_scope_column k c e ≡ true → expr_value e row (bind env k bound) params ≡ Ok (column bound c)
scope_value k c bound row env params = expr_induction (λ e. is_scope_column k c e ≡ true → expr_value e row (bind env k bound) params ≡ Ok (column bound c)) record {
  col = λ i is. clash (is_scope_column k c (E.Col i)) is (fold-Col Bool (scope_column_step k c) i);
  scope = λ j i is.
      let parts = and_parts (j == k) (i == c) (sym (fold-Scope Bool (scope_column_step k c) j i) ∙ is) in
      let row_is = bound_row env k j bound (eqb-true j k parts.0) in
      let at_is = eqb-true i c parts.1 in
      expr_value-Scope row (bind env k bound) params j i ∙ (λ n. Ok (column (row_is n) (at_is n)));
  param = λ i is. clash (is_scope_column k c (E.Param i)) is (fold-Param Bool (scope_column_step k c) i);
  lit = λ v is. clash (is_scope_column k c (E.Lit v)) is (fold-Lit Bool (scope_column_step k c) v);
  bin = λ op a b x y is. clash (is_scope_column k c (E.Bin op a b)) is (fold-Bin Bool (scope_column_step k c) op a b);
  not = λ a x is. clash (is_scope_column k c (E.Not a)) is (fold-Not Bool (scope_column_step k c) a);
  cond = λ t a b w x y is. clash (is_scope_column k c (E.If t a b)) is (fold-If Bool (scope_column_step k c) t a b);
}

front_parts : (x : Answer) (xs : Result Row Faults) (row : Row) → put_front x xs ≡ Ok row → (v : Value) × (rest : Row) × (x ≡ Ok v) × (xs ≡ Ok rest) × (v ∷ rest ≡ row)
front_parts (Ok v) (Ok rest) row is = (v, rest, refl, refl, cc)
front_parts (Ok v) (Err f) row is = cc
front_parts (Err f) (Ok rest) row is = cc
front_parts (Err f) (Err g) row is = cc

-- each of the values of expressions is that of its expression
value_at : (es : List Expr) (row : Row) (env : Scopes) (params out : Row) → expr_values es row env params ≡ Ok out → (at : ℕ) (d : Expr) → at < length es → expr_value (get_or es at d) row env params ≡ Ok (column out at)
value_at [] row env params out is at d below = absurd (omega (arith, below))
value_at (e ∷ es) row env params out is zero d below =
    let parts = front_parts (expr_value e row env params) (expr_values es row env params) out is in
    parts.2 ∙ ap (λ r. Ok (column r zero)) parts.4
value_at (e ∷ es) row env params out is (suc at) d below =
    let parts = front_parts (expr_value e row env params) (expr_values es row env params) out is in
    value_at es row env params parts.1 parts.3 at d (omega (arith, below)) ∙ ap (λ r. Ok (column r (suc at))) parts.4

value_of_ok : (answer : Answer) (v w : Value) → answer ≡ Ok v → answer ≡ Ok w → v ≡ w
value_of_ok answer v w x y = let same = sym x ∙ y in cc

-- a projection keeps the value of each column that is one of its items
pub projection_moves : (es : List Expr) (env : Scopes) (params : Row) (a made : Row) → expr_values es a env params ≡ Ok made → HasMoved (λ c. position (is_column c) es) a made
projection_moves es env params a made is c at found =
    let place = position-Some (is_column c) es at (E.Col zero) found in
    let e = get_or es at (E.Col zero) in
    value_of_ok (expr_value e a env params) (column made at) (column a c) (value_at es a env params made is at (E.Col zero) place.0) (column_value c a env params e place.1)

-- scalars in the body of a list keep the value of each column of the list's scope that is one of them
pub scalars_move : (es : List Expr) (k : ℕ) (env : Scopes) (params : Row) (a made : Row) → expr_values es [] (bind env k a) params ≡ Ok made → HasMoved (λ c. position (is_scope_column k c) es) a made
scalars_move es k env params a made is c at found =
    let place = position-Some (is_scope_column k c) es at (E.Col zero) found in
    let e = get_or es at (E.Col zero) in
    value_of_ok (expr_value e [] (bind env k a) params) (column made at) (column a c) (value_at es [] (bind env k a) params made is at (E.Col zero) place.0) (scope_value k c a [] env params e place.1)
