use Rattle.std.proofs.Common.{◌≡◌, map, take}
use Rattle.castor_val.specs.Values.{column, value_of}
use Rattle.castor_reader.specs.Answers.{values_in}
use Rattle.castor_reader.proofs.group.key_cells.Given as goal

abbrev pub invariant-loop-k : goal.invariant-loop-k
invariant-loop-k l = values_in l.key ≡ map (λ k. column (map value_of l.row) k) (take l.k-index l.ks)
