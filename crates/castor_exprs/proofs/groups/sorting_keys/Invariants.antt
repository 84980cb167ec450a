use Rattle.std.proofs.Common.{◌≡◌, drop}
use Rattle.castor_names.specs.Turns.{in_order}
use Rattle.castor_exprs.specs.Groups.{sorting_keys, with_sorting_key}
use Rattle.castor_exprs.proofs.groups.sorting_keys.Given as goal

abbrev pub invariant-loop-col : goal.invariant-loop-col
invariant-loop-col l = sorting_keys l.from l.keys ≡ in_order (with_sorting_key l.from) l.found (drop l.col-index l.keys)
