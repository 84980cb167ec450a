use Rattle.std.proofs.Common.{◌≡◌, take}
use Rattle.castor_val.specs.Columns.{types_of}
use Rattle.castor_cli.proofs.finishing.types_of.Given as goal

abbrev pub invariant-loop-column : goal.invariant-loop-column
invariant-loop-column l = l.types ≡ types_of (take l.column-index l.columns)
