use Rattle.std.proofs.Common.{◌≡◌, take}
use Rattle.castor_alg.proofs.copies.+copy.Given as goal

abbrev pub invariant-copy_all-loop-query : goal.invariant-copy_all-loop-query
invariant-copy_all-loop-query l = l.copies ≡ take l.query-index l.queries
