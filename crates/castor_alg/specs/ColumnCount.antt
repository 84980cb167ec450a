-- How many columns a relation has.
use Rattle.std.specs.Prelude.{◌≡◌, ℕ, ◌+◌, List, [], length, slice_index_or, sum, Some}
use Rattle.castor_val.specs.declared.value.Ty.{Ty}
use Rattle.castor_alg.specs.declared.context.Context.{Context}
use Rattle.castor_alg.specs.declared.rel.Rel.{Rel, fold-Rel}
use Rattle.castor_alg.specs.declared.rel.Rel.TheOpen.{Rel-F}
use Rattle.castor_alg.specs.declared.rel.Rel.TheOpen as rel
use Rattle.castor_alg.specs.Typing.{column_types}

-- one operator, over how many columns its operands have. The operands of a concatenation have as many as the first
abbrev pub column_count_step : List (List Ty) → Rel-F ℕ → ℕ
column_count_step tables (rel.Table n) = length (slice_index_or tables n [])
column_count_step tables (rel.Scalar e) = 1
column_count_step tables (rel.Cross rs) = sum rs
column_count_step tables (rel.Concat rs) = slice_index_or rs 0 0
column_count_step tables (rel.Select es r) = length es
column_count_step tables (rel.Filter e r) = r
column_count_step tables (rel.Join e r s) = r + s
column_count_step tables (rel.DepJoin k r s) = s
column_count_step tables (rel.Group ks aggs r) = length ks + length aggs
column_count_step tables (rel.Order ks r) = r
column_count_step tables (rel.Dedup r) = r
column_count_step tables (rel.List k r s) = s
column_count_step tables (rel.Hash k r s es) = s
column_count_step tables (rel.Ord k r s lo hi) = s

-- the columns of a relation over tables of these column types
abbrev pub column_count : List (List Ty) → Rel → ℕ
column_count tables q = fold-Rel ℕ (column_count_step tables) q

-- where the relation is well typed, they are as many as its column types
abbrev pub CountsColumns : Rel → Context → Type 0
CountsColumns q context = (types : List Ty) → column_types q context ≡ Some types → column_count context.tables q ≡ length types
