use Rattle.std.proofs.Common.{◌≡◌, ◌++◌, length, map, take}
use Rattle.std.specs.List.{flat_map}
use Rattle.castor_load.specs.Written.{text_of}
use Rattle.castor_reader.specs.Answers.{values_in}
use Rattle.castor_cli.specs.Replies.{head_text, record_of}
use Rattle.castor_cli.proofs.reply.rows_text.Given as goal

abbrev pub invariant-loop-row : goal.invariant-loop-row
invariant-loop-row l = text_of l.writer ≡ head_text l.columns (length l.rows) ++ flat_map record_of (map values_in (take l.row-index l.rows))
