-- The value of each expression, over the values of its parts.
use Rattle.std.proofs.Common.{◌≡◌, ℕ, ap, Ok}
use Rattle.castor_val.specs.declared.value.Value.{Value}
use Rattle.castor_val.specs.declared.row.Row.{Row}
use Rattle.castor_val.specs.Values.{column}
use Rattle.castor_alg.specs.declared.expr.Op.{Op}
use Rattle.castor_alg.specs.declared.expr.Expr.{Expr}
use Rattle.castor_alg.specs.declared.expr.Expr as E
use Rattle.castor_alg.specs.Scopes.{Scopes}
use Rattle.castor_alg.specs.Expression.{Answer, ExprMeaning, apply, both_sides, choice, expr_step, expr_value, negation}
use Rattle.castor_alg.proofs.ExprInduction.{fold-Col, fold-Scope, fold-Param, fold-Lit, fold-Bin, fold-Not, fold-If}
use Rattle.castor_laws.specs.Clauses.{ExprClauses}

module _ (row : Row) (env : Scopes) (params : Row) where
  abbrev here : ExprMeaning → Answer
  here m = m row env params

  pub expr_value-Col : (i : ℕ) → expr_value (E.Col i) row env params ≡ Ok (column row i)
  expr_value-Col i = ap here (fold-Col ExprMeaning expr_step i)

  pub expr_value-Scope : (k i : ℕ) → expr_value (E.Scope k i) row env params ≡ Ok (column (env k) i)
  expr_value-Scope k i = ap here (fold-Scope ExprMeaning expr_step k i)

  pub expr_value-Param : (i : ℕ) → expr_value (E.Param i) row env params ≡ Ok (column params i)
  expr_value-Param i = ap here (fold-Param ExprMeaning expr_step i)

  pub expr_value-Lit : (v : Value) → expr_value (E.Lit v) row env params ≡ Ok v
  expr_value-Lit v = ap here (fold-Lit ExprMeaning expr_step v)

  pub expr_value-Bin : (op : Op) (a b : Expr) → expr_value (E.Bin op a b) row env params ≡ both_sides (apply op) (expr_value a row env params) (expr_value b row env params)
  expr_value-Bin op a b = ap here (fold-Bin ExprMeaning expr_step op a b)

  pub expr_value-Not : (a : Expr) → expr_value (E.Not a) row env params ≡ negation (expr_value a row env params)
  expr_value-Not a = ap here (fold-Not ExprMeaning expr_step a)

  pub expr_value-If : (c a b : Expr) → expr_value (E.If c a b) row env params ≡ choice (expr_value c row env params) (expr_value a row env params) (expr_value b row env params)
  expr_value-If c a b = ap here (fold-If ExprMeaning expr_step c a b)

  pub expr_clauses : ExprClauses row env params
  expr_clauses = record {
    col = expr_value-Col;
    scope = expr_value-Scope;
    param = expr_value-Param;
    lit = expr_value-Lit;
    bin = expr_value-Bin;
    not = expr_value-Not;
    cond = expr_value-If;
  }
