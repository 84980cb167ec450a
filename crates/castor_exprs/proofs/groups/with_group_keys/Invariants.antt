use Rattle.std.proofs.Common.{◌≡◌, [], drop}
use Rattle.castor_names.specs.Turns.{in_order}
use Rattle.castor_exprs.specs.Groups.{with_group_key}
use Rattle.castor_exprs.proofs.groups.with_group_keys.Given as goal

abbrev pub invariant-loop-key : goal.invariant-loop-key
invariant-loop-key l = in_order (with_group_key l.from) (record { keys = []; aggs = []; columns = [] }) l.keys ≡ in_order (with_group_key l.from) l.found (drop l.key-index l.keys)
