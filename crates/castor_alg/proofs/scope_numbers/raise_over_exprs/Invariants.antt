use Rattle.std.proofs.Common.{◌≡◌, take}
use Rattle.std.specs.List.{flat_map}
use Rattle.castor_alg.specs.FreshScope.{raised_over, expr_scopes}
use Rattle.castor_alg.proofs.scope_numbers.raise_over_exprs.Given as goal

abbrev pub invariant-loop-e : goal.invariant-loop-e
invariant-loop-e l = l.highest ≡ raised_over l.initial.highest (flat_map expr_scopes (take l.e-index l.es))
