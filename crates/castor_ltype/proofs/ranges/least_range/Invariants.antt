use Rattle.std.proofs.Common.{◌≡◌, fold, max, min, take}
use Rattle.castor_ltype.proofs.ranges.least_range.Given as goal

abbrev pub invariant-loop-number : goal.invariant-loop-number
invariant-loop-number l = record {
  lo : l.lo ≡ fold min l.initial.lo (take l.number-index l.rest);
  hi : l.hi ≡ fold max l.initial.hi (take l.number-index l.rest);
}
