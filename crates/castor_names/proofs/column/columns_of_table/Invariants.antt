use Rattle.std.proofs.Common.{◌≡◌, Some, map, take}
use Rattle.castor_val.specs.declared.column.Column.{Column}
use Rattle.castor_names.specs.declared.column.NamedColumn.{NamedColumn}
use Rattle.castor_names.proofs.column.columns_of_table.Given as goal

abbrev pub invariant-loop-column : goal.invariant-loop-column
invariant-loop-column l = l.columns ≡ map (λ (c : Column). let named : NamedColumn = record { name = c.name; qualifier = Some l.table.name; ty = c.ty } in named) (take l.column-index l.column-items)
