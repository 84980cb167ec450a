use Rattle.std.proofs.Common.{map, take}
use Rattle.castor_val.specs.Fields.{value_text}
use Rattle.castor_val.specs.Values.{value_of}
use Rattle.castor_load.specs.Written.{HasWritten, text_of}
use Rattle.castor_load.proofs.writer.RecordWriter.write_cells.Given as goal

abbrev pub invariant-loop-place : goal.invariant-loop-place
invariant-loop-place l = HasWritten (text_of l.self) (text_of l.fn.self) (map value_text (map value_of (take l.place l.row)))
