use Rattle.std.proofs.Common.{take}
use Rattle.castor_load.specs.Rows.{names_of}
use Rattle.castor_load.specs.Written.{HasWritten, text_of}
use Rattle.castor_load.proofs.writer.RecordWriter.write_names.Given as goal

abbrev pub invariant-loop-place : goal.invariant-loop-place
invariant-loop-place l = HasWritten (text_of l.self) (text_of l.fn.self) (names_of (take l.place l.columns))
