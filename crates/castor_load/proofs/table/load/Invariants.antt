use Rattle.std.proofs.Common.{◌≡◌}
use Rattle.castor_val.specs.Columns.{types_of}
use Rattle.castor_load.specs.Reading.{IsReading, records_left}
use Rattle.castor_load.specs.Rows.{rows_from, table_of}
use Rattle.castor_load.proofs.Rows.{after}
use Rattle.castor_load.proofs.table.load.Given as goal

abbrev pub invariant-loop-number : goal.invariant-loop-number
invariant-loop-number l = record {
  reading : IsReading l.records;
  rest : table_of l.columns l.fn.bytes ≡ after l.table (rows_from l.number (types_of l.columns) (records_left l.records));
}
