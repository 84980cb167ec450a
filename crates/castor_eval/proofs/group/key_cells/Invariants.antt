use Rattle.std.proofs.Common.{◌≡◌, map, take}
use Rattle.castor_val.specs.Values.{column}
use Rattle.castor_eval.specs.Keys.{key_values}
use Rattle.castor_eval.proofs.group.key_cells.Given as goal

abbrev pub invariant-loop-k : goal.invariant-loop-k
invariant-loop-k l = key_values l.key ≡ map (λ k. column l.row k) (take l.k-index l.ks)
