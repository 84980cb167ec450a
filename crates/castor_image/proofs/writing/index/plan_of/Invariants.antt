use Rattle.std.proofs.Common.{◌≡◌, take}
use Rattle.castor_image.specs.Puts.{hashes}
use Rattle.castor_image.proofs.writing.index.plan_of.Given as goal

abbrev pub invariant-loop-entry : goal.invariant-loop-entry
invariant-loop-entry l = l.hashes.items ≡ hashes (take l.entry-index l.entries)
