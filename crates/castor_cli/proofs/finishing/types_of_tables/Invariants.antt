use Rattle.std.proofs.Common.{◌≡◌, map, take}
use Rattle.castor_names.specs.declared.table.Declared.{Declared}
use Rattle.castor_val.specs.Columns.{types_of}
use Rattle.castor_cli.proofs.finishing.types_of_tables.Given as goal

abbrev pub invariant-loop-table : goal.invariant-loop-table
invariant-loop-table l = l.all ≡ map (λ (t : Declared). types_of t.columns) (take l.table-index l.tables)
