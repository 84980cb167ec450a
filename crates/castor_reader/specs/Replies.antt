-- What a reply says of a meaning.
use Rattle.std.specs.Prelude.{◌≡◌}
use Rattle.castor_val.specs.Values.{no_faults}
use Rattle.castor_alg.specs.declared.out.Out.{Out}
use Rattle.castor_reader.specs.declared.reply.Reply.{Reply}
use Rattle.castor_reader.specs.declared.reply.Reply.TheVariants.{Rows, Faults}
use Rattle.castor_reader.specs.Answers.{rows_in}

-- the rows, in order, where there are no faults; and the faults where there are some
abbrev pub IsReply : Out → Reply → Type 0
IsReply out (Rows rows) = (out.faults ≡ no_faults) × (rows_in rows ≡ out.rows)
IsReply out (Faults f) = (out.faults ≡ no_faults → ⊥) × (f ≡ out.faults)
