use Rattle.std.proofs.Common.{◌≡◌, map, take, Some}
use Rattle.castor_alg.specs.TypeEnvs.{context_of}
use Rattle.castor_alg.specs.Typing.{each}
use Rattle.castor_image.specs.Types.{types_under}
use Rattle.castor_image.proofs.typing.+types_in.Given as goal

abbrev pub invariant-types_of_all-loop-code : goal.invariant-types_of_all-loop-code
invariant-types_of_all-loop-code l = each (map (λ code. types_under code (context_of l.env)) (take l.code-index l.codes)) ≡ Some (map (λ types. types.items) l.all.items)
