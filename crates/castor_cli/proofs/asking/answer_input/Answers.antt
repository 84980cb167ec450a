use Rattle.std.proofs.Common.{inr}
use Rattle.std.specs.Io.KnownBytes.{Appends}
use Rattle.castor_base.specs.Moves.{AppendsPrefix}
use Rattle.castor_cli.proofs.Ends.{answers_taken}
use Rattle.castor_cli.proofs.asking.answer_input.Goals as goal

pub returns-in-Ok-print_answers-clause-printed : goal.returns-in-Ok-print_answers-clause-printed
returns-in-Ok-print_answers-clause-printed g c =
    answers_taken _ _ _ _ (Appends (g.O.Sink.given c.args.out.now) (g.O.Sink.given c.print_answers.new.out)) c.in-Ok.ensures.bytes c.in-Ok.ensures.end (rw c.deref.ensures.value at c.in-Ok-print_answers.ensures.ok)

pub returns-in-Err-Failed-print_answers-clause-printed : goal.returns-in-Err-Failed-print_answers-clause-printed
returns-in-Err-Failed-print_answers-clause-printed g c =
    answers_taken _ _ _ _ (AppendsPrefix (g.O.Sink.given c.args.out.now) (g.O.Sink.given c.print_answers.new.out)) c.in-Ok.ensures.bytes c.in-Ok.ensures.end (rw c.deref.ensures.value at c.in-Err-Failed-print_answers.ensures.err)

pub returns-in-Ok-clause-printed : goal.returns-in-Ok-clause-printed
returns-in-Ok-clause-printed g c =
    inr (answers_taken _ _ _ _ (AppendsPrefix (g.O.Sink.given c.args.out.now) (g.O.Sink.given c.print_answers.new.out)) c.in-Ok.ensures.bytes c.in-Ok.ensures.end (rw c.deref.ensures.value at c.in-Err-Memory-print_answers.ensures.err))
