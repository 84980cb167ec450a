use Rattle.std.proofs.Common.{◌≡◌, take, Some}
use Rattle.castor_alg.specs.TypeEnvs.{context_of}
use Rattle.castor_alg.specs.Typing.{types_of_each}
use Rattle.castor_image.proofs.typing.types_of_each.Given as goal

abbrev pub invariant-loop-e : goal.invariant-loop-e
invariant-loop-e l = types_of_each (take l.e-index l.es) l.columns (context_of l.env) ≡ Some l.types.items
