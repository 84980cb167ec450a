use Rattle.std.proofs.Common.{◌≡◌, ◌-◌, ◌^◌, map, min, sum, take}
use Rattle.castor_code.specs.Skips.{skip}
use Rattle.castor_code.proofs.skips.+skip.Given as goal

abbrev pub invariant-skip_of_all-loop-code : goal.invariant-skip_of_all-loop-code
invariant-skip_of_all-loop-code l = l.reads ≡ min (sum (map skip (take l.code-index l.codes))) (2 ^ 64 - 1)
