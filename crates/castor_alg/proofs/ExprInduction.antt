-- Induction over expressions, and what a fold makes of each operator.
use Rattle.std.proofs.Common.{◌≡◌, ◌∙◌, ℕ, subst, ap, sym}
use Rattle.castor_val.specs.declared.value.Value.{Value}
use Rattle.castor_alg.specs.declared.expr.Op.{Op}
use Rattle.castor_alg.specs.declared.expr.Expr.{Expr, roll-Expr, ind-Expr, fold-Expr, fold-roll-Expr}
use Rattle.castor_alg.specs.declared.expr.Expr as E
use Rattle.castor_alg.specs.declared.expr.Expr.TheFolds.{map-Expr}
use Rattle.castor_alg.specs.declared.expr.Expr.TheVariants.{rolls-Col, rolls-Scope, rolls-Param, rolls-Lit, rolls-Bin, rolls-Not, rolls-If}
use Rattle.castor_alg.specs.declared.expr.Expr.TheOpen as F

-- P of each expression follows from P of its parts
pub record ExprCases (P : Expr → Type 0) : Type 0 where
  pub col : (i : ℕ) → P (E.Col i)
  pub scope : (j i : ℕ) → P (E.Scope j i)
  pub param : (i : ℕ) → P (E.Param i)
  pub lit : (v : Value) → P (E.Lit v)
  pub bin : (op : Op) (a b : Expr) → P a → P b → P (E.Bin op a b)
  pub not : (a : Expr) → P a → P (E.Not a)
  pub cond : (c a b : Expr) → P c → P a → P b → P (E.If c a b)

module _ (P : Expr → Type 0) (k : ExprCases P) where
  at : (y : F.Expr-F ((e : Expr) × P e)) → P (roll-Expr (map-Expr ((e : Expr) × P e) Expr (λ e. e.0) y))
  at (F.Col i) = rw rolls-Col (k.col i)
  at (F.Scope j i) = rw rolls-Scope (k.scope j i)
  at (F.Param i) = rw rolls-Param (k.param i)
  at (F.Lit v) = rw rolls-Lit (k.lit v)
  at (F.Bin op a b) = rw rolls-Bin (k.bin op a.0 b.0 a.1 b.1)
  at (F.Not a) = rw rolls-Not (k.not a.0 a.1)
  at (F.If c a b) = rw rolls-If (k.cond c.0 a.0 b.0 c.1 a.1 b.1)

  -- P holds of every expression
  pub expr_induction : (e : Expr) → P e
  expr_induction = ind-Expr P (λ x y is. subst (λ z. P (roll-Expr z)) is (at y))

module _ (A : Type 0) (step : F.Expr-F A → A) where
  abbrev folded : Expr → A
  folded e = fold-Expr A step e

  pub fold-Col : (i : ℕ) → folded (E.Col i) ≡ step (F.Col i)
  fold-Col i = ap folded (sym (rolls-Col i)) ∙ fold-roll-Expr A step (F.Col i)

  pub fold-Scope : (j i : ℕ) → folded (E.Scope j i) ≡ step (F.Scope j i)
  fold-Scope j i = ap folded (sym (rolls-Scope j i)) ∙ fold-roll-Expr A step (F.Scope j i)

  pub fold-Param : (i : ℕ) → folded (E.Param i) ≡ step (F.Param i)
  fold-Param i = ap folded (sym (rolls-Param i)) ∙ fold-roll-Expr A step (F.Param i)

  pub fold-Lit : (v : Value) → folded (E.Lit v) ≡ step (F.Lit v)
  fold-Lit v = ap folded (sym (rolls-Lit v)) ∙ fold-roll-Expr A step (F.Lit v)

  pub fold-Bin : (op : Op) (a b : Expr) → folded (E.Bin op a b) ≡ step (F.Bin op (folded a) (folded b))
  fold-Bin op a b = ap folded (sym (rolls-Bin op a b)) ∙ fold-roll-Expr A step (F.Bin op a b)

  pub fold-Not : (a : Expr) → folded (E.Not a) ≡ step (F.Not (folded a))
  fold-Not a = ap folded (sym (rolls-Not a)) ∙ fold-roll-Expr A step (F.Not a)

  pub fold-If : (c a b : Expr) → folded (E.If c a b) ≡ step (F.If (folded c) (folded a) (folded b))
  fold-If c a b = ap folded (sym (rolls-If c a b)) ∙ fold-roll-Expr A step (F.If c a b)
