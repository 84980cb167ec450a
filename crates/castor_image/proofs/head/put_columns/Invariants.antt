use Rattle.std.proofs.Common.{drop}
use Rattle.castor_code.specs.Pieces.{one_after_other}
use Rattle.castor_image.specs.Heads.{column_piece, columns_piece}
use Rattle.castor_image.proofs.PieceLaws.{Left}
use Rattle.castor_image.proofs.head.put_columns.Given as goal

abbrev pub invariant-loop-column : goal.invariant-loop-column
invariant-loop-column l = Left (one_after_other column_piece (drop l.column-index l.columns)) (columns_piece l.columns) l.out.items l.fn.out.items
