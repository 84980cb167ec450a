-- Codes whose numbers have the sizes of their places.
use Rattle.std.specs.Prelude.{ℕ, nat_le, Bool, true, ◌&&◌}
use Rattle.std.specs.List.{list_all}
use Rattle.castor_val.specs.Values.{is_int}
use Rattle.castor_alg.specs.declared.expr.Expr.{Expr, fold-Expr}
use Rattle.castor_alg.specs.declared.expr.Expr.TheOpen.{Expr-F, Col, Scope, Param, Lit, Bin, Not, If}
use Rattle.castor_alg.specs.declared.rel.Bound.{Bound}
use Rattle.castor_alg.specs.declared.rel.Bound.TheVariants.{Any, Incl, Excl}
use Rattle.castor_code.specs.declared.code.Code.{Code, fold-Code}
use Rattle.castor_code.specs.declared.code.Code.TheOpen.{Code-F}
use Rattle.castor_code.specs.declared.code.Code.TheOpen as code
use Rattle.castor_code.specs.declared.code.Range.{Range}

abbrev pub is_u16 : ℕ → Bool
is_u16 n = nat_le n 65535

abbrev pub is_u32 : ℕ → Bool
is_u32 n = nat_le n 4294967295

abbrev pub is_u64 : ℕ → Bool
is_u64 n = nat_le n 18446744073709551615

abbrev pub sized_expr_step : Expr-F Bool → Bool
sized_expr_step (Col i) = is_u32 i
sized_expr_step (Scope k i) = is_u32 k && is_u32 i
sized_expr_step (Param i) = is_u32 i
sized_expr_step (Lit v) = true
sized_expr_step (Bin op a b) = a && b
sized_expr_step (Not a) = a
sized_expr_step (If c a b) = c && (a && b)

-- the numbers of columns, scopes and parameters have 32 bits. What literals are, their types say
abbrev pub is_sized_expr : Expr → Bool
is_sized_expr e = fold-Expr Bool sized_expr_step e

abbrev pub is_sized_bound : Bound → Bool
is_sized_bound Any = true
is_sized_bound (Incl e) = is_sized_expr e
is_sized_bound (Excl e) = is_sized_expr e

abbrev pub is_sized_range : Range → Bool
is_sized_range r = is_u64 r.lo && is_u64 r.hi

abbrev pub sized_step : Code-F Bool → Bool
sized_step (code.Int lo hi) = is_int lo && is_int hi
sized_step code.Bool = true
sized_step (code.Text min max) = is_u16 min && is_u16 max
sized_step (code.Cross ks) = list_all (λ k. k) ks
sized_step (code.Concat ks) = list_all (λ k. k) ks
sized_step (code.List count body kid) = is_sized_range count && (is_sized_range body && kid)
sized_step (code.Hash count body key kid by) = is_sized_range count && (is_sized_range body && (list_all (λ k. k) key && (kid && list_all is_sized_expr by)))
sized_step (code.Ord count body key kid lo hi) = is_sized_range count && (is_sized_range body && (key && (kid && (is_sized_bound lo && is_sized_bound hi))))
sized_step (code.Select es kid) = list_all is_sized_expr es && kid
sized_step (code.Filter e kid) = is_sized_expr e && kid
sized_step (code.Dep k first second) = is_u32 k && (first && second)
sized_step (code.Group ks aggs kid) = kid
sized_step (code.Order ks kid) = kid
sized_step (code.Dedup kid) = kid

-- each number has the size of its place. What the columns of groups and of sorting keys are, the types of the kid say
abbrev pub is_sized : Code → Bool
is_sized c = fold-Code Bool sized_step c
