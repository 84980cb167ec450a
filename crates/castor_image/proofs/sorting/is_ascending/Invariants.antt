use Rattle.std.proofs.Common.{◌≡◌, ◌-◌, drop}
use Rattle.castor_code.specs.Directories.{key_lt}
use Rattle.castor_image.proofs.AdjacentLaws.{adjacent}
use Rattle.castor_image.proofs.sorting.is_ascending.Given as goal

abbrev pub invariant-loop-at : goal.invariant-loop-at
invariant-loop-at l = adjacent key_lt l.entries ≡ adjacent key_lt (drop (l.at - 1) l.entries)
