-- Entries of an index, found by their keys.
use Rattle.std.specs.Prelude.{◌==◌, List, [], ◌∷◌, length, Bool, if◌then◌else◌, Option, Some, None}
use Rattle.std.specs.List.{list_all}
use Rattle.std.specs.Ordering.{is_eq}
use Rattle.castor_val.specs.declared.row.Row.{Row}
use Rattle.castor_val.specs.Values.{row_cmp, same_row}
use Rattle.castor_alg.specs.declared.held.Entry.{Entry}
use Rattle.castor_alg.specs.declared.held.Held.{Held}

-- what is held under the key that equals this one
abbrev pub held_under : List Entry → Row → Option Held
held_under [] key = None
held_under (e ∷ es) key = if same_row key e.key then Some e.kid else held_under es key

-- what is held by the first of entries, where its key equals this one
abbrev pub held_first : List Entry → Row → Option Held
held_first [] key = None
held_first (e ∷ es) key = if is_eq (row_cmp e.key key) then Some e.kid else None

-- whether each key has one value
abbrev pub single_keys : List Entry → Bool
single_keys es = list_all (λ (e : Entry). length e.key == 1) es
