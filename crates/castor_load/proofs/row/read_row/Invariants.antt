use Rattle.std.proofs.Common.{◌≡◌, length, drop}
use Rattle.csv.specs.Records.{fields_of}
use Rattle.castor_val.specs.Columns.{types_of}
use Rattle.castor_load.specs.Rows.{row_of, values_from}
use Rattle.castor_load.proofs.Rows.{after}
use Rattle.castor_load.proofs.row.read_row.Given as goal

abbrev pub invariant-loop-i : goal.invariant-loop-i
invariant-loop-i l = record {
  same : length (fields_of l.fields) ≡ length l.columns;
  rest : row_of l.number (types_of l.columns) (fields_of l.fields) ≡ after l.row (values_from l.number l.i (types_of (drop l.i l.columns)) (drop l.i (fields_of l.fields)));
}
