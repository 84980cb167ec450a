-- The number of nodes of a tree of names and its depth. Relations and expressions are nodes.
use Rattle.std.specs.Prelude.{◌≤◌, ℕ, ◌+◌, max, List, fold, map, sum}
use Rattle.castor_val.specs.Limits.{most_depth, most_query_nodes}
use Rattle.castor_tree.specs.declared.tree.Item.{Item}
use Rattle.castor_tree.specs.declared.tree.PBound.{PBound}
use Rattle.castor_tree.specs.declared.tree.PBound.TheVariants as bound
use Rattle.castor_tree.specs.declared.tree.PExpr.{PExpr, fold-PExpr}
use Rattle.castor_tree.specs.declared.tree.PExpr.TheOpen.{PExpr-F}
use Rattle.castor_tree.specs.declared.tree.PExpr.TheOpen as e
use Rattle.castor_tree.specs.declared.tree.PRel.{PRel, fold-PRel}
use Rattle.castor_tree.specs.declared.tree.PRel.TheOpen.{PRel-F}
use Rattle.castor_tree.specs.declared.tree.PRel.TheOpen as r

abbrev pub expr_nodes_step : PExpr-F ℕ → ℕ
expr_nodes_step (e.Col c) = 1
expr_nodes_step (e.ScopeAt k n) = 1
expr_nodes_step (e.Param p) = 1
expr_nodes_step (e.Lit t v) = 1
expr_nodes_step (e.Bin op a b) = 1 + (a + b)
expr_nodes_step (e.Not a) = 1 + a
expr_nodes_step (e.If c a b) = 1 + (c + (a + b))

-- the nodes of an expression
abbrev pub expr_nodes : PExpr → ℕ
expr_nodes a = fold-PExpr ℕ expr_nodes_step a

abbrev pub item_nodes : Item → ℕ
item_nodes i = expr_nodes i.expr

abbrev pub bound_nodes : PBound → ℕ
bound_nodes bound.Any = 0
bound_nodes (bound.Incl a) = expr_nodes a
bound_nodes (bound.Excl a) = expr_nodes a

-- the nodes of a list
abbrev pub all_nodes : {A : Type 0} → (A → ℕ) → List A → ℕ
all_nodes size xs = sum (map size xs)

abbrev pub nodes_step : PRel-F ℕ → ℕ
nodes_step (r.Table w) = 1
nodes_step (r.Scalar i) = 1 + item_nodes i
nodes_step (r.Cross ps) = 1 + sum ps
nodes_step (r.Concat ps) = 1 + sum ps
nodes_step (r.Select is p) = 1 + (all_nodes item_nodes is + p)
nodes_step (r.Filter a p) = 1 + (expr_nodes a + p)
nodes_step (r.Join a p q) = 1 + (expr_nodes a + (p + q))
nodes_step (r.DepJoin k p q) = 1 + (p + q)
nodes_step (r.List k p q) = 1 + (p + q)
nodes_step (r.Hash k p q keys) = 1 + (p + (q + all_nodes expr_nodes keys))
nodes_step (r.Ord k p q lo hi) = 1 + (p + (q + (bound_nodes lo + bound_nodes hi)))
nodes_step (r.Group keys aggs p) = 1 + p
nodes_step (r.Order keys p) = 1 + p
nodes_step (r.Dedup p) = 1 + p

-- the nodes of a relation
abbrev pub nodes : PRel → ℕ
nodes q = fold-PRel ℕ nodes_step q

-- the greatest of these depths, 0 of none
abbrev pub deepest : List ℕ → ℕ
deepest ds = fold max 0 ds

abbrev pub expr_depth_step : PExpr-F ℕ → ℕ
expr_depth_step (e.Col c) = 1
expr_depth_step (e.ScopeAt k n) = 1
expr_depth_step (e.Param p) = 1
expr_depth_step (e.Lit t v) = 1
expr_depth_step (e.Bin op a b) = 1 + max a b
expr_depth_step (e.Not a) = 1 + a
expr_depth_step (e.If c a b) = 1 + max c (max a b)

-- the depth of an expression, 1 where it has no parts
abbrev pub expr_depth : PExpr → ℕ
expr_depth a = fold-PExpr ℕ expr_depth_step a

abbrev pub item_depth : Item → ℕ
item_depth i = expr_depth i.expr

abbrev pub bound_depth : PBound → ℕ
bound_depth bound.Any = 0
bound_depth (bound.Incl a) = expr_depth a
bound_depth (bound.Excl a) = expr_depth a

abbrev pub depth_step : PRel-F ℕ → ℕ
depth_step (r.Table w) = 1
depth_step (r.Scalar i) = 1 + item_depth i
depth_step (r.Cross ps) = 1 + deepest ps
depth_step (r.Concat ps) = 1 + deepest ps
depth_step (r.Select is p) = 1 + max (deepest (map item_depth is)) p
depth_step (r.Filter a p) = 1 + max (expr_depth a) p
depth_step (r.Join a p q) = 1 + max (expr_depth a) (max p q)
depth_step (r.DepJoin k p q) = 1 + max p q
depth_step (r.List k p q) = 1 + max p q
depth_step (r.Hash k p q keys) = 1 + max p (max q (deepest (map expr_depth keys)))
depth_step (r.Ord k p q lo hi) = 1 + max p (max q (max (bound_depth lo) (bound_depth hi)))
depth_step (r.Group keys aggs p) = 1 + p
depth_step (r.Order keys p) = 1 + p
depth_step (r.Dedup p) = 1 + p

-- the depth of a relation, 1 where it has no parts
abbrev pub depth : PRel → ℕ
depth q = fold-PRel ℕ depth_step q

-- a tree that isn't too large: at most 4,096 nodes, and at most 64 deep
pub record IsSmall (query : PRel) : Type 0 where
  pub nodes : nodes query ≤ most_query_nodes
  pub depth : depth query ≤ most_depth
