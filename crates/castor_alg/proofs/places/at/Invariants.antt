use Rattle.std.proofs.Common.{◌≡◌, Some, take}
use Rattle.castor_alg.specs.Places.{at_path}
use Rattle.castor_alg.proofs.places.at.Given as goal

abbrev pub invariant-loop-number : goal.invariant-loop-number
invariant-loop-number l = at_path (take l.number-index l.path) l.query ≡ Some l.found
