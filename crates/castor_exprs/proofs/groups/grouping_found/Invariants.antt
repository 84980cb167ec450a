use Rattle.std.proofs.Common.{◌≡◌, drop}
use Rattle.castor_names.specs.Turns.{in_order}
use Rattle.castor_exprs.specs.Groups.{grouping_found, with_aggregate}
use Rattle.castor_exprs.proofs.groups.grouping_found.Given as goal

abbrev pub invariant-loop-agg : goal.invariant-loop-agg
invariant-loop-agg l = grouping_found l.from l.keys l.aggs ≡ in_order (with_aggregate l.from) l.found (drop l.agg-index l.aggs)
