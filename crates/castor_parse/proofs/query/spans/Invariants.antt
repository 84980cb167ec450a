use Rattle.std.proofs.Common.{◌≡◌, map, take}
use Rattle.castor_parse.proofs.query.spans.Given as goal

abbrev pub invariant-loop-token : goal.invariant-loop-token
invariant-loop-token l = l.spans ≡ map (λ t. t.span) (take l.token-index l.tokens)
