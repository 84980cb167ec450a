use Rattle.std.proofs.Common.{◌≡◌, take}
use Rattle.castor_names.specs.Names.{plain_columns}
use Rattle.castor_names.proofs.column.plain_columns.Given as goal

abbrev pub invariant-loop-column : goal.invariant-loop-column
invariant-loop-column l = l.plain ≡ plain_columns (take l.column-index l.columns)
