use Rattle.std.proofs.Common.{◌≡◌, fold, take}
use Rattle.castor_ltype.specs.Ranges.{greater, lesser}
use Rattle.castor_ltype.proofs.ranges.least_ends.Given as goal

abbrev pub invariant-loop-number : goal.invariant-loop-number
invariant-loop-number l = record {
  lo : l.lo ≡ fold lesser l.initial.lo (take l.number-index l.rest);
  hi : l.hi ≡ fold greater l.initial.hi (take l.number-index l.rest);
}
