-- Expressions and relations in which columns or a scope are replaced.
use Rattle.std.specs.Prelude.{ℕ, ◌==◌, List, map, Bool, false, ◌||◌, if◌then◌else◌, slice_index_or}
use Rattle.std.specs.List.{list_any}
use Rattle.castor_val.specs.declared.value.Value.TheVariants.{Bool as Truth}
use Rattle.castor_alg.specs.declared.expr.Expr.{Expr, fold-Expr, roll-Expr}
use Rattle.castor_alg.specs.declared.expr.Expr as E
use Rattle.castor_alg.specs.declared.expr.Expr.TheOpen.{Expr-F, Col, Scope}
use Rattle.castor_alg.specs.declared.rel.Bound.{Bound}
use Rattle.castor_alg.specs.declared.rel.Bound.TheVariants.{Any, Incl, Excl}
use Rattle.castor_alg.specs.declared.rel.Rel.{Rel, fold-Rel, roll-Rel}
use Rattle.castor_alg.specs.declared.rel.Rel.TheOpen.{Rel-F}
use Rattle.castor_alg.specs.declared.rel.Rel.TheOpen as rel
use Rattle.castor_alg.specs.FreeScopes.{reads}

-- what replaces a column, and `false`, which is what a missing column gives, where nothing does
abbrev pub replacing : List Expr → ℕ → Expr
replacing by i = slice_index_or by i (E.Lit (Truth false))

abbrev pub subst_cols_step : List Expr → Expr-F Expr → Expr
subst_cols_step by (Col i) = replacing by i
subst_cols_step by layer = roll-Expr layer

-- each column replaced by the expression of its number
abbrev pub subst_cols : List Expr → Expr → Expr
subst_cols by e = fold-Expr Expr (subst_cols_step by) e

abbrev pub cols_to_scope_step : ℕ → Expr-F Expr → Expr
cols_to_scope_step k (Col i) = E.Scope k i
cols_to_scope_step k layer = roll-Expr layer

-- each column replaced by that of the scope
abbrev pub cols_to_scope : ℕ → Expr → Expr
cols_to_scope k e = fold-Expr Expr (cols_to_scope_step k) e

abbrev pub subst_scope_expr_step : ℕ → List Expr → Expr-F Expr → Expr
subst_scope_expr_step k by (Scope j i) = if k == j then replacing by i else E.Scope j i
subst_scope_expr_step k by layer = roll-Expr layer

-- each column of the scope replaced by the expression of its number
abbrev pub subst_scope_expr : ℕ → List Expr → Expr → Expr
subst_scope_expr k by e = fold-Expr Expr (subst_scope_expr_step k by) e

abbrev pub subst_scope_bound : ℕ → List Expr → Bound → Bound
subst_scope_bound k by Any = Any
subst_scope_bound k by (Incl e) = Incl (subst_scope_expr k by e)
subst_scope_bound k by (Excl e) = Excl (subst_scope_expr k by e)

abbrev pub subst_scope_step : ℕ → List Expr → Rel-F Rel → Rel
subst_scope_step k by (rel.Scalar e) = roll-Rel (rel.Scalar (subst_scope_expr k by e))
subst_scope_step k by (rel.Select es r) = roll-Rel (rel.Select (map (subst_scope_expr k by) es) r)
subst_scope_step k by (rel.Filter e r) = roll-Rel (rel.Filter (subst_scope_expr k by e) r)
subst_scope_step k by (rel.Join e r s) = roll-Rel (rel.Join (subst_scope_expr k by e) r s)
subst_scope_step k by (rel.Hash j r s es) = roll-Rel (rel.Hash j r s (map (subst_scope_expr k by) es))
subst_scope_step k by (rel.Ord j r s lo hi) = roll-Rel (rel.Ord j r s (subst_scope_bound k by lo) (subst_scope_bound k by hi))
subst_scope_step k by layer = roll-Rel layer

-- each column of the scope replaced by the expression of its number, where no binder has the scope's number
abbrev pub subst_scope : ℕ → List Expr → Rel → Rel
subst_scope k by q = fold-Rel Rel (subst_scope_step k by) q

-- a binder of this number captures: it has the scope's number, or one that the expressions read
abbrev pub captured_by : ℕ → List Expr → ℕ → Bool
captured_by k by j = j == k || list_any (reads j) by

abbrev pub captures_step : ℕ → List Expr → Rel-F Bool → Bool
captures_step k by (rel.Table n) = false
captures_step k by (rel.Scalar e) = false
captures_step k by (rel.Cross rs) = list_any (λ r. r) rs
captures_step k by (rel.Concat rs) = list_any (λ r. r) rs
captures_step k by (rel.Select es r) = r
captures_step k by (rel.Filter e r) = r
captures_step k by (rel.Join e r s) = r || s
captures_step k by (rel.DepJoin j r s) = captured_by k by j || (r || s)
captures_step k by (rel.Group ks aggs r) = r
captures_step k by (rel.Order ks r) = r
captures_step k by (rel.Dedup r) = r
captures_step k by (rel.List j r s) = captured_by k by j || (r || s)
captures_step k by (rel.Hash j r s es) = captured_by k by j || (r || s)
captures_step k by (rel.Ord j r s lo hi) = captured_by k by j || (r || s)

-- a binder in the relation captures
abbrev pub captures : ℕ → List Expr → Rel → Bool
captures k by q = fold-Rel Bool (captures_step k by) q
