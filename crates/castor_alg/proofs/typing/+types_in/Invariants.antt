use Rattle.std.proofs.Common.{◌≡◌, map, take, Some}
use Rattle.castor_alg.specs.TypeEnvs.{context_of}
use Rattle.castor_alg.specs.Typing.{each, types_under}
use Rattle.castor_alg.proofs.typing.+types_in.Given as goal

abbrev pub invariant-types_of_all-loop-query : goal.invariant-types_of_all-loop-query
invariant-types_of_all-loop-query l = each (map (λ query. types_under query (context_of l.env)) (take l.query-index l.queries)) ≡ Some (map (λ types. types.items) l.all.items)
