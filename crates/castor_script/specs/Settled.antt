-- Which relations don't wait for a question: they can be computed, and stored, before it comes.
use Rattle.std.specs.Prelude.{ℕ, Bool, true, false, not, ◌&&◌, ◌||◌, ◌==◌, if◌then◌else◌}
use Rattle.std.specs.List.{list_any}
use Rattle.castor_alg.specs.declared.expr.Expr.{Expr, fold-Expr}
use Rattle.castor_alg.specs.declared.expr.Expr.TheOpen.{Expr-F, Col, Scope, Param, Lit, Bin, Not, If}
use Rattle.castor_alg.specs.declared.rel.Bound.{Bound}
use Rattle.castor_alg.specs.declared.rel.Bound.TheVariants.{Any, Incl, Excl}
use Rattle.castor_alg.specs.declared.rel.Rel.{Rel, fold-Rel}
use Rattle.castor_alg.specs.declared.rel.Rel.TheOpen.{Rel-F}
use Rattle.castor_alg.specs.declared.rel.Rel.TheOpen as rel

-- which scopes have a row only when a question comes
abbrev pub RunScopes : Type 0
RunScopes = ℕ → Bool

-- no scope is bound
abbrev pub no_run_scopes : RunScopes
no_run_scopes k = false

-- in the body of a binder of the scope k, which is a run scope or isn't. The innermost binder of a scope counts
abbrev pub with_scope : Bool → RunScopes → ℕ → RunScopes
with_scope is_run runs k j = if k == j then is_run else runs j

-- whether something waits, under the run scopes around it
abbrev pub Waiting : Type 0
Waiting = RunScopes → Bool

abbrev pub expr_waits_step : Expr-F Waiting → Waiting
expr_waits_step (Col i) runs = false
expr_waits_step (Scope k i) runs = runs k
expr_waits_step (Param i) runs = true
expr_waits_step (Lit v) runs = false
expr_waits_step (Bin op a b) runs = a runs || b runs
expr_waits_step (Not a) runs = a runs
expr_waits_step (If c a b) runs = c runs || (a runs || b runs)

-- the expression has a parameter or reads a run scope
abbrev pub expr_waits : Expr → Waiting
expr_waits e = fold-Expr Waiting expr_waits_step e

abbrev pub bound_waits : Bound → Waiting
bound_waits Any runs = false
bound_waits (Incl e) runs = expr_waits e runs
bound_waits (Excl e) runs = expr_waits e runs

-- one operator. The scope of a binder isn't free in its body
abbrev pub waits_step : Rel-F Waiting → Waiting
waits_step (rel.Table n) runs = false
waits_step (rel.Scalar e) runs = expr_waits e runs
waits_step (rel.Cross rs) runs = list_any (λ (r : Waiting). r runs) rs
waits_step (rel.Concat rs) runs = list_any (λ (r : Waiting). r runs) rs
waits_step (rel.Select es r) runs = list_any (λ e. expr_waits e runs) es || r runs
waits_step (rel.Filter e r) runs = expr_waits e runs || r runs
waits_step (rel.Join e r s) runs = expr_waits e runs || (r runs || s runs)
waits_step (rel.DepJoin k r s) runs = r runs || s (with_scope false runs k)
waits_step (rel.Group ks aggs r) runs = r runs
waits_step (rel.Order ks r) runs = r runs
waits_step (rel.Dedup r) runs = r runs
waits_step (rel.List k r s) runs = r runs || s (with_scope false runs k)
waits_step (rel.Hash k r s es) runs = list_any (λ e. expr_waits e runs) es || (r runs || s (with_scope false runs k))
waits_step (rel.Ord k r s lo hi) runs = (bound_waits lo runs || bound_waits hi runs) || (r runs || s (with_scope false runs k))

-- the relation has a parameter or a free run scope
abbrev pub waits : Rel → Waiting
waits q = fold-Rel Waiting waits_step q

abbrev pub layout_step : Rel-F Bool → Bool
layout_step (rel.Table n) = false
layout_step (rel.Scalar e) = true
layout_step (rel.Cross rs) = true
layout_step (rel.Concat rs) = true
layout_step (rel.Select es r) = false
layout_step (rel.Filter e r) = false
layout_step (rel.Join e r s) = false
layout_step (rel.DepJoin k r s) = false
layout_step (rel.Group ks aggs r) = false
layout_step (rel.Order ks r) = false
layout_step (rel.Dedup r) = false
layout_step (rel.List k r s) = true
layout_step (rel.Hash k r s es) = true
layout_step (rel.Ord k r s lo hi) = true

-- the relation says how data lies
abbrev pub is_layout : Rel → Bool
is_layout q = fold-Rel Bool layout_step q

-- a relation in run position that can be stored as it is
abbrev pub is_settled : RunScopes → Rel → Bool
is_settled runs q = not (is_layout q) && not (waits q runs)
