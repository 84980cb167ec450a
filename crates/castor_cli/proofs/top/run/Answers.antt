use Rattle.std.proofs.Common.{◌∙◌, Some, ap, map, string_bytes, subst, sym}
use Rattle.castor_cli.specs.declared.command.Command.TheVariants.{Answer, Ask, Build}
use Rattle.castor_cli.specs.Commands.{names_in, word}
use Rattle.castor_cli.specs.Outcome.{IsNotTooLong}
use Rattle.castor_cli.proofs.Started.{ended_answer, ended_ask, ended_build_named, filed_answer, filed_ask, filed_build, image_of_build, is_no_usage, names_ask, printed_answer, printed_ask, printed_build, taken_answer, taken_ask, taken_build}
use Rattle.castor_cli.proofs.top.run.Goals as goal

pub returns-in-Some-Answer-clause-printed : goal.returns-in-Some-Answer-clause-printed
returns-in-Some-Answer-clause-printed g c =
    printed_answer _ _ _ _ _ _ _ _ (sym c.in-Some-Answer.ensures ∙ ap Some c.in-Some-Answer.field-0-is) (rw (c.word-query.ensures, c.word.ensures) at c.answer.ensures.printed)

pub returns-in-Some-Answer-clause-taken : goal.returns-in-Some-Answer-clause-taken
returns-in-Some-Answer-clause-taken g c =
    taken_answer _ _ _ _ (sym c.in-Some-Answer.ensures ∙ ap Some c.in-Some-Answer.field-0-is) c.answer.ensures.taken

pub returns-in-Some-Answer-clause-filed : goal.returns-in-Some-Answer-clause-filed
returns-in-Some-Answer-clause-filed g c =
    filed_answer _ _ _ _ _ _ (sym c.in-Some-Answer.ensures ∙ ap Some c.in-Some-Answer.field-0-is) c.answer.ensures.shelf

pub returns-in-Some-Answer-clause-how : goal.returns-in-Some-Answer-clause-how
returns-in-Some-Answer-clause-how g c =
    ended_answer _ _ _ (λ name. _) _ _ _ _ _ _ (sym c.in-Some-Answer.ensures ∙ ap Some c.in-Some-Answer.field-0-is) (rw (c.word-query.ensures, c.word.ensures) at (c.answer.ensures.how (names_in (map string_bytes c.args.words.now)).image))

pub returns-in-Some-Answer-clause-usage : goal.returns-in-Some-Answer-clause-usage
returns-in-Some-Answer-clause-usage g c =
    is_no_usage _ Answer _ (sym c.in-Some-Answer.ensures ∙ ap Some c.in-Some-Answer.field-0-is) c.answer.ensures.usage

pub returns-in-Some-Ask-clause-printed : goal.returns-in-Some-Ask-clause-printed
returns-in-Some-Ask-clause-printed g c =
    printed_ask _ _ _ _ _ _ _ _ (sym c.in-Some-Ask.ensures ∙ ap Some c.in-Some-Ask.field-0-is) (rw c.word-in-Some-Ask.ensures at c.ask_file.ensures.printed)

pub returns-in-Some-Ask-clause-taken : goal.returns-in-Some-Ask-clause-taken
returns-in-Some-Ask-clause-taken g c =
    taken_ask _ _ _ _ (sym c.in-Some-Ask.ensures ∙ ap Some c.in-Some-Ask.field-0-is) c.ask_file.ensures.taken

pub returns-in-Some-Ask-clause-filed : goal.returns-in-Some-Ask-clause-filed
returns-in-Some-Ask-clause-filed g c =
    filed_ask _ _ _ _ _ _ (sym c.in-Some-Ask.ensures ∙ ap Some c.in-Some-Ask.field-0-is) c.ask_file.ensures.shelf

pub returns-in-Some-Ask-clause-how : goal.returns-in-Some-Ask-clause-how
returns-in-Some-Ask-clause-how g c =
    ended_ask _ _ _ (λ name. _) _ _ _ _ _ _ (sym c.in-Some-Ask.ensures ∙ ap Some c.in-Some-Ask.field-0-is) (rw (names_ask (map string_bytes c.args.words.now) (sym c.in-Some-Ask.ensures ∙ ap Some c.in-Some-Ask.field-0-is)) (rw c.word-in-Some-Ask.ensures at (c.ask_file.ensures.how (word (map string_bytes c.args.words.now) 1) (word (map string_bytes c.args.words.now) 2))))

pub returns-in-Some-Ask-clause-usage : goal.returns-in-Some-Ask-clause-usage
returns-in-Some-Ask-clause-usage g c =
    is_no_usage _ Ask _ (sym c.in-Some-Ask.ensures ∙ ap Some c.in-Some-Ask.field-0-is) c.ask_file.ensures.usage

pub returns-in-Some-Build-clause-printed : goal.returns-in-Some-Build-clause-printed
returns-in-Some-Build-clause-printed g c =
    printed_build _ _ _ _ _ _ (sym c.in-Some-Build.ensures ∙ ap Some c.in-Some-Build.field-0-is)

pub returns-in-Some-Build-clause-how : goal.returns-in-Some-Build-clause-how
returns-in-Some-Build-clause-how g c =
    ended_build_named _ _ _ (λ name. _) (g.I.Source.faults c.args.input.now) (g.I.Source.faults c.args.input.now) (g.O.Sink.faults c.args.out.now) (g.O.Sink.faults c.args.out.now) (g.S.Shelf.write_faults c.args.shelf.now) (g.S.Shelf.write_faults c.build_file.new.shelf) _ _ _ _ _ _ _ _ (sym c.in-Some-Build.ensures ∙ ap Some c.in-Some-Build.field-0-is) (image_of_build (map string_bytes c.args.words.now) (sym c.in-Some-Build.ensures ∙ ap Some c.in-Some-Build.field-0-is)) (rw (c.word-query-in-Some-Build.ensures, c.word-in-Some-Build.ensures, c.word-in-Some-Build-2.ensures) at c.build_file.ensures.how)

pub returns-in-Some-Build-clause-usage : goal.returns-in-Some-Build-clause-usage
returns-in-Some-Build-clause-usage g c =
    is_no_usage _ Build _ (sym c.in-Some-Build.ensures ∙ ap Some c.in-Some-Build.field-0-is) c.build_file.ensures.usage

pub returns-in-Some-Build-clause-filed : goal.returns-in-Some-Build-clause-filed
returns-in-Some-Build-clause-filed g c =
    filed_build _ _ _ _ _ _ _ (sym c.in-Some-Build.ensures ∙ ap Some c.in-Some-Build.field-0-is) (rw (image_of_build (map string_bytes c.args.words.now) (sym c.in-Some-Build.ensures ∙ ap Some c.in-Some-Build.field-0-is)) (rw (c.word-query-in-Some-Build.ensures, c.word-in-Some-Build.ensures, c.word-in-Some-Build-2.ensures) at c.build_file.ensures.written))

pub returns-in-Some-Build-clause-taken : goal.returns-in-Some-Build-clause-taken
returns-in-Some-Build-clause-taken g c =
    taken_build _ _ _ (sym c.in-Some-Build.ensures ∙ ap Some c.in-Some-Build.field-0-is) (λ is. subst IsNotTooLong is c.build_file.ensures.input)
