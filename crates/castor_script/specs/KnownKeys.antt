-- The keys that the rows of a relation are known to be sorted by.
use Rattle.std.specs.Prelude.{ℕ, ◌==◌, ◌&&◌, List, [], ◌∷◌, map, position, Bool, true, false, Option, Some, None}
use Rattle.castor_alg.specs.declared.expr.Expr.{Expr, fold-Expr}
use Rattle.castor_alg.specs.declared.expr.Expr.TheOpen.{Expr-F, Col, Scope, Param, Lit, Bin, Not, If}
use Rattle.castor_alg.specs.declared.rel.Key.{Key}
use Rattle.castor_alg.specs.declared.rel.Rel.{Rel, fold-Rel}
use Rattle.castor_alg.specs.declared.rel.Rel.TheOpen.{Rel-F}
use Rattle.castor_alg.specs.declared.rel.Rel.TheOpen as rel

abbrev pub column_step : ℕ → Expr-F Bool → Bool
column_step c (Col i) = i == c
column_step c (Scope j i) = false
column_step c (Param i) = false
column_step c (Lit v) = false
column_step c (Bin op a b) = false
column_step c (Not a) = false
column_step c (If test a b) = false

-- the expression is just this column
abbrev pub is_column : ℕ → Expr → Bool
is_column c e = fold-Expr Bool (column_step c) e

abbrev pub scope_column_step : ℕ → ℕ → Expr-F Bool → Bool
scope_column_step k c (Col i) = false
scope_column_step k c (Scope j i) = (j == k) && (i == c)
scope_column_step k c (Param i) = false
scope_column_step k c (Lit v) = false
scope_column_step k c (Bin op a b) = false
scope_column_step k c (Not a) = false
scope_column_step k c (If test a b) = false

-- the expression is just this column of this scope
abbrev pub is_scope_column : ℕ → ℕ → Expr → Bool
is_scope_column k c e = fold-Expr Bool (scope_column_step k c) e

-- a key for the column at this place, in front of others; where there is no place, all end there
abbrev pub front_key : Option ℕ → Bool → List Key → List Key
front_key None desc ks = []
front_key (Some c) desc ks = record { col = c; desc = desc } ∷ ks

-- each key moved to the place of its column, up to the first that has none
abbrev pub moved : (ℕ → Option ℕ) → List Key → List Key
moved place [] = []
moved place (k ∷ ks) = front_key (place k.col) k.desc (moved place ks)

-- What is known of a relation: the keys of its rows; the expression of a scalar; and those of a cross of scalars.
pub record Known : Type 0 where
  pub keys : List Key
  pub value : Option Expr
  pub values : Option (List Expr)

abbrev pub sorted_as : List Key → Known
sorted_as ks = record { keys = ks; value = None; values = None }

abbrev pub nothing : Known
nothing = sorted_as []

-- one more expression in front, where all are there
abbrev pub with_value : Option Expr → Option (List Expr) → Option (List Expr)
with_value None es = None
with_value (Some e) None = None
with_value (Some e) (Some es) = Some (e ∷ es)

-- the expressions of operands that all are scalars
abbrev pub all_values : List (Option Expr) → Option (List Expr)
all_values [] = Some []
all_values (e ∷ es) = with_value e (all_values es)

-- keys of a list's source, each moved to the first scalar that is just its column
abbrev pub moved_into : Option (List Expr) → ℕ → List Key → List Key
moved_into None k ks = []
moved_into (Some es) k ks = moved (λ c. position (is_scope_column k c) es) ks

abbrev pub known_step : Rel-F Known → Known
known_step (rel.Table n) = nothing
known_step (rel.Scalar e) = record { keys = []; value = Some e; values = None }
known_step (rel.Cross rs) = record { keys = []; value = None; values = all_values (map (λ (r : Known). r.value) rs) }
known_step (rel.Concat rs) = nothing
known_step (rel.Select es r) = sorted_as (moved (λ c. position (is_column c) es) r.keys)
known_step (rel.Filter e r) = sorted_as r.keys
known_step (rel.Join e r s) = nothing
known_step (rel.DepJoin k r s) = nothing
known_step (rel.Group ks aggs r) = nothing
known_step (rel.Order ks r) = sorted_as ks
known_step (rel.Dedup r) = sorted_as r.keys
known_step (rel.List k r s) = sorted_as (moved_into s.values k r.keys)
known_step (rel.Hash k r s es) = nothing
known_step (rel.Ord k r s lo hi) = nothing

abbrev pub known : Rel → Known
known q = fold-Rel Known known_step q

-- the keys that the rows of a relation are known to be sorted by
abbrev pub known_keys : Rel → List Key
known_keys q = (known q).keys

-- the relation is a scalar
abbrev pub is_value : Option Expr → Bool
is_value None = false
is_value (Some e) = true

-- the relation is a scalar of just this column of this scope
abbrev pub is_value_of : ℕ → ℕ → Option Expr → Bool
is_value_of k c None = false
is_value_of k c (Some e) = is_scope_column k c e
