-- The columns of a scope's row, one expression each.
use Rattle.std.specs.Prelude.{ℕ, zero, suc, ◌+◌, List, [], ◌∷◌}
use Rattle.castor_alg.specs.declared.expr.Expr.{Expr, Scope}

-- so many columns of a scope, from the one with this number on
abbrev pub scope_columns_from : ℕ → ℕ → ℕ → List Expr
scope_columns_from k at zero = []
scope_columns_from k at (suc n) = Scope k at ∷ scope_columns_from k (at + 1) n

-- the first columns of a scope
abbrev pub scope_columns : ℕ → ℕ → List Expr
scope_columns k n = scope_columns_from k 0 n
