-- Whether the keys of the indexes in held data are distinct and ascending.
use Rattle.std.specs.Prelude.{◌≡◌, Bool, true, ◌&&◌}
use Rattle.std.specs.List.{list_all}
use Rattle.std.specs.FinMap.Entries.{is_sorted}
use Rattle.castor_val.specs.declared.row.Row.{Row}
use Rattle.castor_val.specs.Values.{row_cmp}
use Rattle.castor_alg.specs.declared.held.Held.{Held, fold-Held}
use Rattle.castor_alg.specs.declared.held.Held.TheOpen.{Held-F, Entry-F, Leaf, Parts, Rows, Keyed, Inner}

-- a key, beside whether this is so of what is stored under it
abbrev pub entry_step : Entry-F Bool (Row × Bool) → Row × Bool
entry_step e = (e.key, e.kid)

-- each key of an index is less than those behind it
abbrev pub keys_step : Held-F Bool (Row × Bool) → Bool
keys_step (Leaf v) = true
keys_step (Parts kids) = list_all (λ (k : Bool). k) kids
keys_step (Rows kids) = list_all (λ (k : Bool). k) kids
keys_step (Keyed entries) = is_sorted row_cmp entries && list_all (λ (e : Row × Bool). e.1) entries
keys_step (Inner kid) = kid

-- whether the keys of each index are distinct and ascending
abbrev pub has_ascending_keys : Held → Bool
has_ascending_keys held = fold-Held Bool (Row × Bool) keys_step entry_step held

abbrev pub HasAscendingKeys : Held → Type 0
HasAscendingKeys held = has_ascending_keys held ≡ true
