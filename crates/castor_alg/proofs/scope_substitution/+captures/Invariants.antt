use Rattle.std.proofs.Common.{◌≡◌, false, take}
use Rattle.std.specs.List.{list_any}
use Rattle.castor_alg.specs.Substitution.{captures}
use Rattle.castor_alg.proofs.scope_substitution.+captures.Given as goal

abbrev pub invariant-any_captures-loop-query : goal.invariant-any_captures-loop-query
invariant-any_captures-loop-query l = list_any (captures l.scope l.by) (take l.query-index l.queries) ≡ false
