-- The nodes of each shape of tree.
use Rattle.std.proofs.Common.{◌≡◌, ℕ, ◌+◌, Bool, List, Option, sym, ap, ◌∙◌}
use Rattle.castor_val.specs.declared.value.Ty.{Ty}
use Rattle.castor_val.specs.declared.value.Value.{Value}
use Rattle.castor_alg.specs.declared.expr.Op.{Op}
use Rattle.castor_tree.specs.declared.tree.Word.{Word}
use Rattle.castor_tree.specs.declared.tree.PCol.{PCol}
use Rattle.castor_tree.specs.declared.tree.PAgg.{PAgg}
use Rattle.castor_tree.specs.declared.tree.PBound.{PBound}
use Rattle.castor_tree.specs.declared.tree.Item.{Item}
use Rattle.castor_tree.specs.declared.tree.PExpr.{PExpr, fold-roll-PExpr}
use Rattle.castor_tree.specs.declared.tree.PExpr.TheVariants as e
use Rattle.castor_tree.specs.declared.tree.PExpr.TheOpen as E
use Rattle.castor_tree.specs.declared.tree.PRel.{PRel, fold-roll-PRel}
use Rattle.castor_tree.specs.declared.tree.PRel.TheVariants as r
use Rattle.castor_tree.specs.declared.tree.PRel.TheOpen as R
use Rattle.castor_tree.specs.Sizes.{expr_nodes, expr_nodes_step, item_nodes, bound_nodes, all_nodes, nodes, nodes_step}

pub expr_nodes-Col : (c : PCol) → expr_nodes (e.Col c) ≡ 1
expr_nodes-Col c = ap expr_nodes (sym (e.rolls-Col c)) ∙ fold-roll-PExpr ℕ expr_nodes_step (E.Col c)

pub expr_nodes-ScopeAt : (k : Word) (n : ℕ) → expr_nodes (e.ScopeAt k n) ≡ 1
expr_nodes-ScopeAt k n = ap expr_nodes (sym (e.rolls-ScopeAt k n)) ∙ fold-roll-PExpr ℕ expr_nodes_step (E.ScopeAt k n)

pub expr_nodes-Param : (p : Word) → expr_nodes (e.Param p) ≡ 1
expr_nodes-Param p = ap expr_nodes (sym (e.rolls-Param p)) ∙ fold-roll-PExpr ℕ expr_nodes_step (E.Param p)

pub expr_nodes-Lit : (t : Ty) (v : Value) → expr_nodes (e.Lit t v) ≡ 1
expr_nodes-Lit t v = ap expr_nodes (sym (e.rolls-Lit t v)) ∙ fold-roll-PExpr ℕ expr_nodes_step (E.Lit t v)

pub expr_nodes-Bin : (o : Op) (a b : PExpr) → expr_nodes (e.Bin o a b) ≡ 1 + (expr_nodes a + expr_nodes b)
expr_nodes-Bin o a b = ap expr_nodes (sym (e.rolls-Bin o a b)) ∙ fold-roll-PExpr ℕ expr_nodes_step (E.Bin o a b)

pub expr_nodes-Not : (a : PExpr) → expr_nodes (e.Not a) ≡ 1 + expr_nodes a
expr_nodes-Not a = ap expr_nodes (sym (e.rolls-Not a)) ∙ fold-roll-PExpr ℕ expr_nodes_step (E.Not a)

pub expr_nodes-If : (c a b : PExpr) → expr_nodes (e.If c a b) ≡ 1 + (expr_nodes c + (expr_nodes a + expr_nodes b))
expr_nodes-If c a b = ap expr_nodes (sym (e.rolls-If c a b)) ∙ fold-roll-PExpr ℕ expr_nodes_step (E.If c a b)

pub nodes-Table : (w : Word) → nodes (r.Table w) ≡ 1
nodes-Table w = ap nodes (sym (r.rolls-Table w)) ∙ fold-roll-PRel ℕ nodes_step (R.Table w)

pub nodes-Scalar : (i : Item) → nodes (r.Scalar i) ≡ 1 + item_nodes i
nodes-Scalar i = ap nodes (sym (r.rolls-Scalar i)) ∙ fold-roll-PRel ℕ nodes_step (R.Scalar i)

pub nodes-Cross : (ps : List PRel) → nodes (r.Cross ps) ≡ 1 + all_nodes nodes ps
nodes-Cross ps = ap nodes (sym (r.rolls-Cross ps)) ∙ fold-roll-PRel ℕ nodes_step (R.Cross ps)

pub nodes-Concat : (ps : List PRel) → nodes (r.Concat ps) ≡ 1 + all_nodes nodes ps
nodes-Concat ps = ap nodes (sym (r.rolls-Concat ps)) ∙ fold-roll-PRel ℕ nodes_step (R.Concat ps)

pub nodes-Select : (is : List Item) (p : PRel) → nodes (r.Select is p) ≡ 1 + (all_nodes item_nodes is + nodes p)
nodes-Select is p = ap nodes (sym (r.rolls-Select is p)) ∙ fold-roll-PRel ℕ nodes_step (R.Select is p)

pub nodes-Filter : (a : PExpr) (p : PRel) → nodes (r.Filter a p) ≡ 1 + (expr_nodes a + nodes p)
nodes-Filter a p = ap nodes (sym (r.rolls-Filter a p)) ∙ fold-roll-PRel ℕ nodes_step (R.Filter a p)

pub nodes-Join : (a : PExpr) (p q : PRel) → nodes (r.Join a p q) ≡ 1 + (expr_nodes a + (nodes p + nodes q))
nodes-Join a p q = ap nodes (sym (r.rolls-Join a p q)) ∙ fold-roll-PRel ℕ nodes_step (R.Join a p q)

pub nodes-DepJoin : (k : Word) (p q : PRel) → nodes (r.DepJoin k p q) ≡ 1 + (nodes p + nodes q)
nodes-DepJoin k p q = ap nodes (sym (r.rolls-DepJoin k p q)) ∙ fold-roll-PRel ℕ nodes_step (R.DepJoin k p q)

pub nodes-List : (k : Word) (p q : PRel) → nodes (r.List k p q) ≡ 1 + (nodes p + nodes q)
nodes-List k p q = ap nodes (sym (r.rolls-List k p q)) ∙ fold-roll-PRel ℕ nodes_step (R.List k p q)

pub nodes-Hash : (k : Word) (p q : PRel) (keys : List PExpr) → nodes (r.Hash k p q keys) ≡ 1 + (nodes p + (nodes q + all_nodes expr_nodes keys))
nodes-Hash k p q keys = ap nodes (sym (r.rolls-Hash k p q keys)) ∙ fold-roll-PRel ℕ nodes_step (R.Hash k p q keys)

pub nodes-Ord : (k : Word) (p q : PRel) (lo hi : PBound) → nodes (r.Ord k p q lo hi) ≡ 1 + (nodes p + (nodes q + (bound_nodes lo + bound_nodes hi)))
nodes-Ord k p q lo hi = ap nodes (sym (r.rolls-Ord k p q lo hi)) ∙ fold-roll-PRel ℕ nodes_step (R.Ord k p q lo hi)

pub nodes-Group : (keys : List PCol) (aggs : List (PAgg × Option Word)) (p : PRel) → nodes (r.Group keys aggs p) ≡ 1 + nodes p
nodes-Group keys aggs p = ap nodes (sym (r.rolls-Group keys aggs p)) ∙ fold-roll-PRel ℕ nodes_step (R.Group keys aggs p)

pub nodes-Order : (keys : List (PCol × Bool)) (p : PRel) → nodes (r.Order keys p) ≡ 1 + nodes p
nodes-Order keys p = ap nodes (sym (r.rolls-Order keys p)) ∙ fold-roll-PRel ℕ nodes_step (R.Order keys p)

pub nodes-Dedup : (p : PRel) → nodes (r.Dedup p) ≡ 1 + nodes p
nodes-Dedup p = ap nodes (sym (r.rolls-Dedup p)) ∙ fold-roll-PRel ℕ nodes_step (R.Dedup p)
