-- How cells are hashed.
use Rattle.std.specs.Prelude.{◌≡◌}
use Rattle.std.specs.Hash.{HashWrites}
use Rattle.castor_val.specs.contracts.value.CellHash.TheImpl as hash
use Rattle.castor_val.specs.declared.value.Cell.{Cell}
use Rattle.castor_val.specs.Values.{value_of}

-- what a cell writes to a hasher
abbrev pub hash_writes : Cell → HashWrites
hash_writes c = hash.ghosts.hash_input c

-- cells that hold one value write the same to a hasher
abbrev pub IsValueHash : Type 0
IsValueHash = (a b : Cell) → value_of a ≡ value_of b → hash_writes a ≡ hash_writes b
