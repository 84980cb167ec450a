-- Induction over expressions of names, and what a fold makes of each operator.
use Rattle.std.proofs.Common.{◌≡◌, ◌∙◌, ℕ, subst, ap, sym}
use Rattle.castor_val.specs.declared.value.Ty.{Ty}
use Rattle.castor_val.specs.declared.value.Value.{Value}
use Rattle.castor_alg.specs.declared.expr.Op.{Op}
use Rattle.castor_tree.specs.declared.tree.PCol.{PCol}
use Rattle.castor_tree.specs.declared.tree.Word.{Word}
use Rattle.castor_tree.specs.declared.tree.PExpr.{PExpr, roll-PExpr, ind-PExpr, fold-PExpr, fold-roll-PExpr}
use Rattle.castor_tree.specs.declared.tree.PExpr as E
use Rattle.castor_tree.specs.declared.tree.PExpr.TheFolds.{map-PExpr}
use Rattle.castor_tree.specs.declared.tree.PExpr.TheVariants.{rolls-Col, rolls-ScopeAt, rolls-Param, rolls-Lit, rolls-Bin, rolls-Not, rolls-If}
use Rattle.castor_tree.specs.declared.tree.PExpr.TheOpen as F

-- P of each expression follows from P of its parts
pub record ExprCases (P : PExpr → Type 0) : Type 0 where
  pub col : (c : PCol) → P (E.Col c)
  pub scope_at : (w : Word) (i : ℕ) → P (E.ScopeAt w i)
  pub param : (w : Word) → P (E.Param w)
  pub lit : (t : Ty) (v : Value) → P (E.Lit t v)
  pub bin : (op : Op) (a b : PExpr) → P a → P b → P (E.Bin op a b)
  pub not : (a : PExpr) → P a → P (E.Not a)
  pub cond : (c a b : PExpr) → P c → P a → P b → P (E.If c a b)

module _ (P : PExpr → Type 0) (k : ExprCases P) where
  at : (y : F.PExpr-F ((e : PExpr) × P e)) → P (roll-PExpr (map-PExpr ((e : PExpr) × P e) PExpr (λ e. e.0) y))
  at (F.Col c) = rw rolls-Col (k.col c)
  at (F.ScopeAt w i) = rw rolls-ScopeAt (k.scope_at w i)
  at (F.Param w) = rw rolls-Param (k.param w)
  at (F.Lit t v) = rw rolls-Lit (k.lit t v)
  at (F.Bin op a b) = rw rolls-Bin (k.bin op a.0 b.0 a.1 b.1)
  at (F.Not a) = rw rolls-Not (k.not a.0 a.1)
  at (F.If c a b) = rw rolls-If (k.cond c.0 a.0 b.0 c.1 a.1 b.1)

  -- P holds of every expression of names
  pub expr_induction : (e : PExpr) → P e
  expr_induction = ind-PExpr P (λ x y is. subst (λ z. P (roll-PExpr z)) is (at y))

module _ (A : Type 0) (step : F.PExpr-F A → A) where
  abbrev folded : PExpr → A
  folded e = fold-PExpr A step e

  pub fold-Col : (c : PCol) → folded (E.Col c) ≡ step (F.Col c)
  fold-Col c = ap folded (sym (rolls-Col c)) ∙ fold-roll-PExpr A step (F.Col c)

  pub fold-ScopeAt : (w : Word) (i : ℕ) → folded (E.ScopeAt w i) ≡ step (F.ScopeAt w i)
  fold-ScopeAt w i = ap folded (sym (rolls-ScopeAt w i)) ∙ fold-roll-PExpr A step (F.ScopeAt w i)

  pub fold-Param : (w : Word) → folded (E.Param w) ≡ step (F.Param w)
  fold-Param w = ap folded (sym (rolls-Param w)) ∙ fold-roll-PExpr A step (F.Param w)

  pub fold-Lit : (t : Ty) (v : Value) → folded (E.Lit t v) ≡ step (F.Lit t v)
  fold-Lit t v = ap folded (sym (rolls-Lit t v)) ∙ fold-roll-PExpr A step (F.Lit t v)

  pub fold-Bin : (op : Op) (a b : PExpr) → folded (E.Bin op a b) ≡ step (F.Bin op (folded a) (folded b))
  fold-Bin op a b = ap folded (sym (rolls-Bin op a b)) ∙ fold-roll-PExpr A step (F.Bin op a b)

  pub fold-Not : (a : PExpr) → folded (E.Not a) ≡ step (F.Not (folded a))
  fold-Not a = ap folded (sym (rolls-Not a)) ∙ fold-roll-PExpr A step (F.Not a)

  pub fold-If : (c a b : PExpr) → folded (E.If c a b) ≡ step (F.If (folded c) (folded a) (folded b))
  fold-If c a b = ap folded (sym (rolls-If c a b)) ∙ fold-roll-PExpr A step (F.If c a b)
