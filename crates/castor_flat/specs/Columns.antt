-- Columns by their numbers, and expressions by the columns that they have.
use Rattle.std.specs.Prelude.{ℕ, ◌+◌, ◌-◌, List, ◌++◌, map, replicate, Bool, false, ◌&&◌, nat_le, nat_lt}
use Rattle.std.specs.List.{range_with_len}
use Rattle.castor_val.specs.declared.value.Value.TheVariants.{Bool as Truth}
use Rattle.castor_alg.specs.declared.expr.Expr.{Expr, Col, Lit}
use Rattle.castor_laws.specs.ColumnTests.{columns_pass}

-- each column of the expression has a number from the first on and below the last
abbrev pub has_columns_within : ℕ → ℕ → Expr → Bool
has_columns_within from to e = columns_pass (λ i. nat_le from i && nat_lt i to) e

-- the columns from one number on and below another
abbrev pub columns_between : ℕ → ℕ → List Expr
columns_between from to = map Col (range_with_len from (to - from))

-- what the columns of two operands side by side are where the operands change places
abbrev pub changed_places : ℕ → ℕ → List Expr
changed_places left right = columns_between right (right + left) ++ columns_between 0 right

-- what the columns of two operands side by side are over the second alone; those of the first are missing there
abbrev pub over_second : ℕ → ℕ → List Expr
over_second left right = replicate left (Lit (Truth false)) ++ columns_between 0 right
