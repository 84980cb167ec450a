-- A scope number that occurs nowhere.
use Rattle.std.specs.Prelude.{ℕ, ◌+◌, ◌==◌, max, List, [], ◌∷◌, ◌++◌, fold, Option, Some, None, if◌then◌else◌}
use Rattle.std.specs.List.{list_any, flat_map}
use Rattle.castor_alg.specs.declared.expr.Expr.{Expr, fold-Expr}
use Rattle.castor_alg.specs.declared.expr.Expr.TheOpen.{Expr-F, Col, Scope, Param, Lit, Bin, Not, If}
use Rattle.castor_alg.specs.declared.rel.Bound.{Bound}
use Rattle.castor_alg.specs.declared.rel.Bound.TheVariants.{Any, Incl, Excl}
use Rattle.castor_alg.specs.declared.rel.Rel.{Rel, fold-Rel}
use Rattle.castor_alg.specs.declared.rel.Rel.TheOpen.{Rel-F}
use Rattle.castor_alg.specs.declared.rel.Rel.TheOpen as rel

abbrev pub expr_scopes_step : Expr-F (List ℕ) → List ℕ
expr_scopes_step (Col i) = []
expr_scopes_step (Scope k i) = k ∷ []
expr_scopes_step (Param i) = []
expr_scopes_step (Lit v) = []
expr_scopes_step (Bin op a b) = a ++ b
expr_scopes_step (Not a) = a
expr_scopes_step (If c a b) = c ++ (a ++ b)

-- the scope numbers in an expression
abbrev pub expr_scopes : Expr → List ℕ
expr_scopes e = fold-Expr (List ℕ) expr_scopes_step e

abbrev pub bound_scopes : Bound → List ℕ
bound_scopes Any = []
bound_scopes (Incl e) = expr_scopes e
bound_scopes (Excl e) = expr_scopes e

abbrev pub scope_numbers_step : Rel-F (List ℕ) → List ℕ
scope_numbers_step (rel.Table n) = []
scope_numbers_step (rel.Scalar e) = expr_scopes e
scope_numbers_step (rel.Cross rs) = flat_map (λ r. r) rs
scope_numbers_step (rel.Concat rs) = flat_map (λ r. r) rs
scope_numbers_step (rel.Select es r) = flat_map expr_scopes es ++ r
scope_numbers_step (rel.Filter e r) = expr_scopes e ++ r
scope_numbers_step (rel.Join e r s) = expr_scopes e ++ (r ++ s)
scope_numbers_step (rel.DepJoin k r s) = k ∷ (r ++ s)
scope_numbers_step (rel.Group ks aggs r) = r
scope_numbers_step (rel.Order ks r) = r
scope_numbers_step (rel.Dedup r) = r
scope_numbers_step (rel.List k r s) = k ∷ (r ++ s)
scope_numbers_step (rel.Hash k r s es) = k ∷ (r ++ (s ++ flat_map expr_scopes es))
scope_numbers_step (rel.Ord k r s lo hi) = k ∷ (r ++ (s ++ (bound_scopes lo ++ bound_scopes hi)))

-- the scope numbers that occur in a relation, bound or free
abbrev pub scope_numbers : Rel → List ℕ
scope_numbers q = fold-Rel (List ℕ) scope_numbers_step q

-- one above all the numbers, 0 of none
abbrev pub one_above : List ℕ → ℕ
one_above ks = fold (λ above k. max above (k + 1)) 0 ks

-- one above all scope numbers that occur, and none where the greatest number there is occurs
abbrev pub fresh_scope : Rel → Option ℕ
fresh_scope q = if list_any (λ k. k == 4294967295) (scope_numbers q) then None else Some (one_above (scope_numbers q))

-- a number above another scope number too, and none where that is the greatest number there is
abbrev pub raised : Option ℕ → ℕ → Option ℕ
raised None k = None
raised (Some above) k = if k == 4294967295 then None else Some (max above (k + 1))

-- a number above more scope numbers too
abbrev pub raised_over : Option ℕ → List ℕ → Option ℕ
raised_over above ks = fold raised above ks
