use Rattle.std.proofs.Common.{◌≡◌, length, drop}
use Rattle.std.specs.Cmp.Lexicographic.{pointwise}
use Rattle.std.specs.Str.{bytes_eq}
use Rattle.csv.specs.Records.{fields_of}
use Rattle.castor_load.specs.Rows.{names_of}
use Rattle.castor_load.proofs.table.is_header.Given as goal

abbrev pub invariant-loop-i : goal.invariant-loop-i
invariant-loop-i l = record {
  same : length (fields_of l.fields) ≡ length l.columns;
  rest : pointwise bytes_eq (fields_of l.fields) (names_of l.columns) ≡ pointwise bytes_eq (drop l.i (fields_of l.fields)) (names_of (drop l.i l.columns));
}
