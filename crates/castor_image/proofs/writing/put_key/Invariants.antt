use Rattle.std.proofs.Common.{drop}
use Rattle.castor_image.specs.Puts.{values_piece}
use Rattle.castor_image.proofs.PieceLaws.{Left}
use Rattle.castor_image.proofs.writing.put_key.Given as goal

abbrev pub invariant-loop-at : goal.invariant-loop-at
invariant-loop-at l = Left (values_piece (drop l.at l.key) (drop l.at l.values)) (values_piece l.key l.values) l.out.items l.fn.out.items
