use Rattle.std.proofs.Common.{◌≡◌, ◌-◌, ◌^◌, map, min, sum, take}
use Rattle.castor_alg.specs.ColumnCount.{column_count}
use Rattle.castor_alg.proofs.column_counts.+column_count.Given as goal

abbrev pub invariant-columns_of_all-loop-query : goal.invariant-columns_of_all-loop-query
invariant-columns_of_all-loop-query l = l.count ≡ min (sum (map (column_count l.tables) (take l.query-index l.queries))) (2 ^ 64 - 1)
