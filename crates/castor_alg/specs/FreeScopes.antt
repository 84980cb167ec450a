-- The scopes that expressions and relations read from outside.
use Rattle.std.specs.Prelude.{ℕ, Bool, false, not, ◌&&◌, ◌||◌, ◌==◌}
use Rattle.std.specs.List.{list_any}
use Rattle.castor_alg.specs.declared.expr.Expr.{Expr, fold-Expr}
use Rattle.castor_alg.specs.declared.expr.Expr.TheOpen.{Expr-F, Col, Scope, Param, Lit, Bin, Not, If}
use Rattle.castor_alg.specs.declared.rel.Bound.{Bound}
use Rattle.castor_alg.specs.declared.rel.Bound.TheVariants.{Any, Incl, Excl}
use Rattle.castor_alg.specs.declared.rel.Rel.{Rel, fold-Rel}
use Rattle.castor_alg.specs.declared.rel.Rel.TheOpen.{Rel-F}
use Rattle.castor_alg.specs.declared.rel.Rel.TheOpen as rel

abbrev pub reads_step : ℕ → Expr-F Bool → Bool
reads_step scope (Col i) = false
reads_step scope (Scope k i) = k == scope
reads_step scope (Param i) = false
reads_step scope (Lit v) = false
reads_step scope (Bin op a b) = a || b
reads_step scope (Not a) = a
reads_step scope (If c a b) = c || (a || b)

-- the expression reads the scope
abbrev pub reads : ℕ → Expr → Bool
reads scope e = fold-Expr Bool (reads_step scope) e

abbrev pub bound_reads : ℕ → Bound → Bool
bound_reads scope Any = false
bound_reads scope (Incl e) = reads scope e
bound_reads scope (Excl e) = reads scope e

-- the scope is free in the body of a binder: it is another than the binder's, and free in there
abbrev pub passes : ℕ → ℕ → Bool → Bool
passes scope k body = not (k == scope) && body

abbrev pub free_step : ℕ → Rel-F Bool → Bool
free_step scope (rel.Table n) = false
free_step scope (rel.Scalar e) = reads scope e
free_step scope (rel.Cross rs) = list_any (λ r. r) rs
free_step scope (rel.Concat rs) = list_any (λ r. r) rs
free_step scope (rel.Select es r) = list_any (reads scope) es || r
free_step scope (rel.Filter e r) = reads scope e || r
free_step scope (rel.Join e r s) = reads scope e || (r || s)
free_step scope (rel.DepJoin k r s) = r || passes scope k s
free_step scope (rel.Group ks aggs r) = r
free_step scope (rel.Order ks r) = r
free_step scope (rel.Dedup r) = r
free_step scope (rel.List k r s) = r || passes scope k s
free_step scope (rel.Hash k r s es) = list_any (reads scope) es || (r || passes scope k s)
free_step scope (rel.Ord k r s lo hi) = (bound_reads scope lo || bound_reads scope hi) || (r || passes scope k s)

-- the scope occurs outside every binder of that number, which binds in its body alone
abbrev pub is_free : ℕ → Rel → Bool
is_free scope q = fold-Rel Bool (free_step scope) q
