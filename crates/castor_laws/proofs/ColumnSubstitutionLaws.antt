-- The value of an expression whose columns are replaced.
use Rattle.std.proofs.Common.{◌≡◌, ◌∙◌, ℕ, zero, suc, List, [], ◌∷◌, refl, sym, ap, Result, Ok, Err}
use Rattle.castor_val.specs.declared.fault.Faults.{Faults}
use Rattle.castor_val.specs.declared.row.Row.{Row}
use Rattle.castor_val.specs.declared.value.Value.{Value}
use Rattle.castor_val.specs.declared.value.Value.TheVariants.{Bool as Truth}
use Rattle.castor_val.specs.Values.{column}
use Rattle.std.specs.Prelude.{false}
use Rattle.castor_alg.specs.declared.expr.Expr.{Expr}
use Rattle.castor_alg.specs.declared.expr.Expr.TheVariants.{rolls-Scope, rolls-Param, rolls-Lit, rolls-Bin, rolls-Not, rolls-If}
use Rattle.castor_alg.specs.Expression.{Answer, expr_value, expr_values, put_front}
use Rattle.castor_alg.specs.Scopes.{Scopes}
use Rattle.castor_alg.specs.Substitution.{cols_to_scope, cols_to_scope_step, replacing, subst_cols, subst_cols_step}
use Rattle.castor_alg.proofs.ExprInduction.{expr_induction, fold-Col, fold-Scope, fold-Param, fold-Lit, fold-Bin, fold-Not, fold-If}
use Rattle.castor_laws.specs.Substitution.{ColumnsAreOfScope, ColumnsHaveValues}
use Rattle.castor_laws.proofs.ExprClauseLaws.{expr_value-Col, expr_value-Scope, expr_value-Param, expr_value-Lit, expr_value-Bin, expr_value-Not, expr_value-If}

-- a row of values begins with the first
pub front : (a : Answer) (r : Result Row Faults) (values : Row) → put_front a r ≡ Ok values → (v : Value) × (vs : Row) × (a ≡ Ok v) × (r ≡ Ok vs) × (values ≡ v ∷ vs)
front (Ok v) (Ok vs) values is = (v, vs, refl, refl, cc)
front (Ok v) (Err g) values is = cc
front (Err f) (Ok vs) values is = cc
front (Err f) (Err g) values is = cc

-- each expression has its value, and what is past the last is false
pub replacing_value : (by : List Expr) (row : Row) (env : Scopes) (p values : Row) → expr_values by row env p ≡ Ok values → (i : ℕ) → expr_value (replacing by i) row env p ≡ Ok (column values i)
replacing_value [] row env p values is i =
    let none : values ≡ [] = cc in
    expr_value-Lit row env p (Truth false) ∙ ap (λ (x : Row). Ok (column x i)) (sym none)
replacing_value (e ∷ es) row env p values is zero =
    let (v, vs, first, rest, whole) = front (expr_value e row env p) (expr_values es row env p) values is in
    first ∙ ap (λ (x : Row). Ok (column x 0)) (sym whole)
replacing_value (e ∷ es) row env p values is (suc i) =
    let (v, vs, first, rest, whole) = front (expr_value e row env p) (expr_values es row env p) values is in
    replacing_value es row env p vs rest i ∙ ap (λ (x : Row). Ok (column x (suc i))) (sym whole)

module _ (by : List Expr) where
  pub columns_have_values : (e : Expr) → ColumnsHaveValues by e
  columns_have_values = expr_induction (ColumnsHaveValues by) record {
    col = λ i row env p values is.
        ap (λ (e : Expr). expr_value e row env p) (fold-Col Expr (subst_cols_step by) i) ∙ replacing_value by row env p values is i ∙ sym (expr_value-Col values env p i);
    scope = λ k i row env p values is. rw (fold-Scope Expr (subst_cols_step by) k i, rolls-Scope k i, expr_value-Scope row env p k i, expr_value-Scope values env p k i);
    param = λ i row env p values is. rw (fold-Param Expr (subst_cols_step by) i, rolls-Param i, expr_value-Param row env p i, expr_value-Param values env p i);
    lit = λ v row env p values is. rw (fold-Lit Expr (subst_cols_step by) v, rolls-Lit v, expr_value-Lit row env p v, expr_value-Lit values env p v);
    bin = λ op a b x y row env p values is.
        rw (fold-Bin Expr (subst_cols_step by) op a b, rolls-Bin op (subst_cols by a) (subst_cols by b), expr_value-Bin row env p op (subst_cols by a) (subst_cols by b), expr_value-Bin values env p op a b, x row env p values is, y row env p values is);
    not = λ a x row env p values is.
        rw (fold-Not Expr (subst_cols_step by) a, rolls-Not (subst_cols by a), expr_value-Not row env p (subst_cols by a), expr_value-Not values env p a, x row env p values is);
    cond = λ c a b w x y row env p values is.
        rw (fold-If Expr (subst_cols_step by) c a b, rolls-If (subst_cols by c) (subst_cols by a) (subst_cols by b), expr_value-If row env p (subst_cols by c) (subst_cols by a) (subst_cols by b), expr_value-If values env p c a b, w row env p values is, x row env p values is, y row env p values is);
  }

module _ (k : ℕ) where
  pub columns_are_of_scope : (e : Expr) → ColumnsAreOfScope k e
  columns_are_of_scope = expr_induction (ColumnsAreOfScope k) record {
    col = λ i row env p. rw (fold-Col Expr (cols_to_scope_step k) i, expr_value-Scope row env p k i, expr_value-Col (env k) env p i);
    scope = λ j i row env p. rw (fold-Scope Expr (cols_to_scope_step k) j i, rolls-Scope j i, expr_value-Scope row env p j i, expr_value-Scope (env k) env p j i);
    param = λ i row env p. rw (fold-Param Expr (cols_to_scope_step k) i, rolls-Param i, expr_value-Param row env p i, expr_value-Param (env k) env p i);
    lit = λ v row env p. rw (fold-Lit Expr (cols_to_scope_step k) v, rolls-Lit v, expr_value-Lit row env p v, expr_value-Lit (env k) env p v);
    bin = λ op a b x y row env p.
        rw (fold-Bin Expr (cols_to_scope_step k) op a b, rolls-Bin op (cols_to_scope k a) (cols_to_scope k b), expr_value-Bin row env p op (cols_to_scope k a) (cols_to_scope k b), expr_value-Bin (env k) env p op a b, x row env p, y row env p);
    not = λ a x row env p.
        rw (fold-Not Expr (cols_to_scope_step k) a, rolls-Not (cols_to_scope k a), expr_value-Not row env p (cols_to_scope k a), expr_value-Not (env k) env p a, x row env p);
    cond = λ c a b w x y row env p.
        rw (fold-If Expr (cols_to_scope_step k) c a b, rolls-If (cols_to_scope k c) (cols_to_scope k a) (cols_to_scope k b), expr_value-If row env p (cols_to_scope k c) (cols_to_scope k a) (cols_to_scope k b), expr_value-If (env k) env p c a b, w row env p, x row env p, y row env p);
  }
