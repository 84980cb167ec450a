-- The number of nodes of a tree and its depth. Relations and expressions are nodes.
use Rattle.std.specs.Prelude.{ℕ, ◌+◌, max, List, fold, map, sum}
use Rattle.castor_alg.specs.declared.expr.Expr.{Expr, fold-Expr}
use Rattle.castor_alg.specs.declared.expr.Expr.TheOpen.{Expr-F, Col, Scope, Param, Lit, Bin, Not, If}
use Rattle.castor_alg.specs.declared.rel.Bound.{Bound}
use Rattle.castor_alg.specs.declared.rel.Bound.TheVariants.{Any, Incl, Excl}
use Rattle.castor_alg.specs.declared.rel.Rel.{Rel, fold-Rel}
use Rattle.castor_alg.specs.declared.rel.Rel.TheOpen.{Rel-F}
use Rattle.castor_alg.specs.declared.rel.Rel.TheOpen as rel

abbrev pub expr_nodes_step : Expr-F ℕ → ℕ
expr_nodes_step (Col i) = 1
expr_nodes_step (Scope k i) = 1
expr_nodes_step (Param i) = 1
expr_nodes_step (Lit v) = 1
expr_nodes_step (Bin op a b) = 1 + (a + b)
expr_nodes_step (Not a) = 1 + a
expr_nodes_step (If c a b) = 1 + (c + (a + b))

-- the nodes of an expression
abbrev pub expr_nodes : Expr → ℕ
expr_nodes e = fold-Expr ℕ expr_nodes_step e

abbrev pub bound_nodes : Bound → ℕ
bound_nodes Any = 0
bound_nodes (Incl e) = expr_nodes e
bound_nodes (Excl e) = expr_nodes e

abbrev pub all_expr_nodes : List Expr → ℕ
all_expr_nodes es = sum (map expr_nodes es)

abbrev pub nodes_step : Rel-F ℕ → ℕ
nodes_step (rel.Table n) = 1
nodes_step (rel.Scalar e) = 1 + expr_nodes e
nodes_step (rel.Cross rs) = 1 + sum rs
nodes_step (rel.Concat rs) = 1 + sum rs
nodes_step (rel.Select es r) = 1 + (all_expr_nodes es + r)
nodes_step (rel.Filter e r) = 1 + (expr_nodes e + r)
nodes_step (rel.Join e r s) = 1 + (expr_nodes e + (r + s))
nodes_step (rel.DepJoin k r s) = 1 + (r + s)
nodes_step (rel.Group ks aggs r) = 1 + r
nodes_step (rel.Order ks r) = 1 + r
nodes_step (rel.Dedup r) = 1 + r
nodes_step (rel.List k r s) = 1 + (r + s)
nodes_step (rel.Hash k r s es) = 1 + (r + (s + all_expr_nodes es))
nodes_step (rel.Ord k r s lo hi) = 1 + (r + (s + (bound_nodes lo + bound_nodes hi)))

-- the nodes of a relation
abbrev pub nodes : Rel → ℕ
nodes q = fold-Rel ℕ nodes_step q

-- the greatest of these depths, 0 of none
abbrev pub deepest : List ℕ → ℕ
deepest ds = fold max 0 ds

abbrev pub expr_depth_step : Expr-F ℕ → ℕ
expr_depth_step (Col i) = 1
expr_depth_step (Scope k i) = 1
expr_depth_step (Param i) = 1
expr_depth_step (Lit v) = 1
expr_depth_step (Bin op a b) = 1 + max a b
expr_depth_step (Not a) = 1 + a
expr_depth_step (If c a b) = 1 + max c (max a b)

-- the depth of an expression, 1 where it has no parts
abbrev pub expr_depth : Expr → ℕ
expr_depth e = fold-Expr ℕ expr_depth_step e

abbrev pub bound_depth : Bound → ℕ
bound_depth Any = 0
bound_depth (Incl e) = expr_depth e
bound_depth (Excl e) = expr_depth e

abbrev pub deepest_expr : List Expr → ℕ
deepest_expr es = deepest (map expr_depth es)

abbrev pub depth_step : Rel-F ℕ → ℕ
depth_step (rel.Table n) = 1
depth_step (rel.Scalar e) = 1 + expr_depth e
depth_step (rel.Cross rs) = 1 + deepest rs
depth_step (rel.Concat rs) = 1 + deepest rs
depth_step (rel.Select es r) = 1 + max (deepest_expr es) r
depth_step (rel.Filter e r) = 1 + max (expr_depth e) r
depth_step (rel.Join e r s) = 1 + max (expr_depth e) (max r s)
depth_step (rel.DepJoin k r s) = 1 + max r s
depth_step (rel.Group ks aggs r) = 1 + r
depth_step (rel.Order ks r) = 1 + r
depth_step (rel.Dedup r) = 1 + r
depth_step (rel.List k r s) = 1 + max r s
depth_step (rel.Hash k r s es) = 1 + max r (max s (deepest_expr es))
depth_step (rel.Ord k r s lo hi) = 1 + max r (max s (max (bound_depth lo) (bound_depth hi)))

-- the depth of a relation, 1 where it has no parts
abbrev pub depth : Rel → ℕ
depth q = fold-Rel ℕ depth_step q
