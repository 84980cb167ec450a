use Rattle.std.proofs.Common.{◌≡◌, take, map}
use Rattle.castor_val.specs.Values.{value_of}
use Rattle.castor_dir.specs.Hashing.{hash_of}
use Rattle.castor_dir.proofs.hash.key_hash.Given as goal

abbrev pub invariant-loop-cell : goal.invariant-loop-cell
invariant-loop-cell l = l.hash ≡ hash_of (map value_of (take l.cell-index l.key))
