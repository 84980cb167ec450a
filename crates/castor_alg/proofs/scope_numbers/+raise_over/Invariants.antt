use Rattle.std.proofs.Common.{◌≡◌, take}
use Rattle.std.specs.List.{flat_map}
use Rattle.castor_alg.specs.FreshScope.{raised_over, scope_numbers}
use Rattle.castor_alg.proofs.scope_numbers.+raise_over.Given as goal

abbrev pub invariant-raise_over_all-loop-query : goal.invariant-raise_over_all-loop-query
invariant-raise_over_all-loop-query l = l.highest ≡ raised_over l.initial.highest (flat_map scope_numbers (take l.query-index l.queries))
