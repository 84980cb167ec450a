-- Expressions and relations that can't fault.
use Rattle.std.specs.Prelude.{List, [], ◌∷◌, Bool, true, false, ◌&&◌, not}
use Rattle.std.specs.List.{list_all}
use Rattle.castor_alg.specs.declared.expr.Op.{Op}
use Rattle.castor_alg.specs.declared.expr.Op.TheVariants.{Or, And, Eq, Ne, Lt, Le, Gt, Ge, Add, Sub, Mul, Div, Rem}
use Rattle.castor_alg.specs.declared.expr.Expr.{Expr, fold-Expr}
use Rattle.castor_alg.specs.declared.expr.Expr.TheOpen.{Expr-F, Col, Scope, Param, Lit, Bin, Not, If}
use Rattle.castor_alg.specs.declared.rel.Agg.{Agg}
use Rattle.castor_alg.specs.declared.rel.Agg.TheVariants.{Count, Sum, Min, Max}
use Rattle.castor_alg.specs.declared.rel.Bound.{Bound}
use Rattle.castor_alg.specs.declared.rel.Bound.TheVariants.{Any, Incl, Excl}
use Rattle.castor_alg.specs.declared.rel.Rel.{Rel, fold-Rel}
use Rattle.castor_alg.specs.declared.rel.Rel.TheOpen.{Rel-F}
use Rattle.castor_alg.specs.declared.rel.Rel.TheOpen as rel

-- the operator is none of + - * / %
abbrev pub is_total_op : Op → Bool
is_total_op Or = true
is_total_op And = true
is_total_op Eq = true
is_total_op Ne = true
is_total_op Lt = true
is_total_op Le = true
is_total_op Gt = true
is_total_op Ge = true
is_total_op Add = false
is_total_op Sub = false
is_total_op Mul = false
is_total_op Div = false
is_total_op Rem = false

abbrev pub total_expr_step : Expr-F Bool → Bool
total_expr_step (Col i) = true
total_expr_step (Scope k i) = true
total_expr_step (Param i) = true
total_expr_step (Lit v) = true
total_expr_step (Bin op a b) = is_total_op op && (a && b)
total_expr_step (Not a) = a
total_expr_step (If c a b) = c && (a && b)

-- the expression contains no arithmetic
abbrev pub is_total_expr : Expr → Bool
is_total_expr e = fold-Expr Bool total_expr_step e

abbrev pub is_total_bound : Bound → Bool
is_total_bound Any = true
is_total_bound (Incl e) = is_total_expr e
is_total_bound (Excl e) = is_total_expr e

abbrev pub is_count : Agg → Bool
is_count Count = true
is_count (Sum i) = false
is_count (Min i) = false
is_count (Max i) = false

abbrev pub is_sum : Agg → Bool
is_sum Count = false
is_sum (Sum i) = true
is_sum (Min i) = false
is_sum (Max i) = false

-- a grouping that can't fault: it has only counts, or it has keys and no sum
abbrev pub is_total_group : {X : Type 0} → List X → List Agg → Bool
is_total_group [] aggs = list_all is_count aggs
is_total_group (k ∷ ks) aggs = list_all (λ a. not (is_sum a)) aggs

abbrev pub total_step : Rel-F Bool → Bool
total_step (rel.Table n) = true
total_step (rel.Scalar e) = is_total_expr e
total_step (rel.Cross rs) = list_all (λ r. r) rs
total_step (rel.Concat rs) = list_all (λ r. r) rs
total_step (rel.Select es r) = list_all is_total_expr es && r
total_step (rel.Filter e r) = is_total_expr e && r
total_step (rel.Join e r s) = is_total_expr e && (r && s)
total_step (rel.DepJoin k r s) = r && s
total_step (rel.Group ks aggs r) = is_total_group ks aggs && r
total_step (rel.Order ks r) = r
total_step (rel.Dedup r) = r
total_step (rel.List k r s) = r && s
total_step (rel.Hash k r s es) = list_all is_total_expr es && (r && s)
total_step (rel.Ord k r s lo hi) = (is_total_bound lo && is_total_bound hi) && (r && s)

-- all expressions are total, and so is each grouping
abbrev pub is_total : Rel → Bool
is_total q = fold-Rel Bool total_step q
