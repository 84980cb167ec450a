-- Groups beside their keys, as a program holds them.
use Rattle.std.specs.Prelude.{List, map}
use Rattle.std.specs.Borrow.{Bor}
use Rattle.std.specs.declared.vec.Vec.{Vec}
use Rattle.castor_val.specs.declared.row.Row.{Row}
use Rattle.castor_val.specs.declared.value.Cell.{Cell}
use Rattle.castor_reader.specs.declared.group.Groups.{Groups}
use Rattle.castor_reader.specs.Answers.{row_behind, values_in}

-- the rows that borrowed ones stand for
abbrev pub rows_behind : {A : Type 0} → Vec (Bor (List Cell)) A → List Row
rows_behind rows = map row_behind rows.items

-- the keys of the groups
abbrev pub keys_in : Groups → List Row
keys_in groups = map values_in groups.keys.keys

-- beside each key the rows that have it
abbrev pub members_in : Groups → List (List Row)
members_in groups = map rows_behind groups.members.items
