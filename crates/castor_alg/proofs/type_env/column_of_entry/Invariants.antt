use Rattle.std.proofs.Common.{◌≡◌, option_and_then, slice_get, take}
use Rattle.castor_alg.specs.Typing.{scope_types}
use Rattle.castor_alg.proofs.type_env.column_of_entry.Given as goal

abbrev pub invariant-loop-bound : goal.invariant-loop-bound
invariant-loop-bound l = l.found ≡ option_and_then (λ types. slice_get types l.at) (scope_types (take l.bound-index l.entries) l.scope)
