use Rattle.std.proofs.Common.{◌++◌, ◌∙◌, sym, refl, arith}
use Rattle.std.proofs.lemmas.List.{nil_from_length}
use Rattle.std.proofs.lemmas.Bool.{eqb-true}
use Rattle.castor_base.proofs.Known.{appends_more}
use Rattle.castor_cli.specs.Answers.{content_in, line_text}
use Rattle.castor_cli.proofs.Output.{went_on, went_partly, went_all}
use Rattle.castor_cli.proofs.answers.print_answers.Goals as goal

pub returns-in-Err-clause-err : goal.returns-in-Err-clause-err
returns-in-Err-clause-err g c =
    let (done, e, app, later, same) = c.loop-rest.invariant in
    went_partly _ _ _ (content_in c.args.image.now) c.args.input.now c.loop-rest.rest.now c.cut_line-cut.result.line.now c.cut_line-cut.result.rest.now done c.in-Ok.reply.items e
    c.cut_line-cut.ensures.cut app c.in-Ok.ensures.text (rw c.deref.ensures.value at c.in-Err.ensures.err)

pub loop-rest-preserved : goal.loop-rest-preserved
loop-rest-preserved g c =
    let (done, e, app, later, same) = c.loop-rest.invariant in
    let out = rw (c.deref.ensures.value, c.in-Ok.ensures.text) at c.in-Ok-put_all.ensures.ok in (
      done ++ line_text (content_in c.args.image.now) c.cut_line-cut.result.line.now,
      went_on (content_in c.args.image.now) c.args.input.now c.loop-rest.rest.now c.cut_line-cut.result.line.now c.cut_line-cut.result.rest.now done e c.cut_line-cut.ensures.cut,
      appends_more _ _ _ _ _ _ app out refl,
      omega (arith, c.put_all.ensures.later),
      c.answer_line.ensures.steps ∙ same,
    )

pub returns-clause-ok : goal.returns-clause-ok
returns-clause-ok g c =
    let (done, e, app, later, same) = c.loop-rest.invariant in
    went_all _ _ (content_in c.args.image.now) c.args.input.now c.loop-rest.rest.now done e app (nil_from_length _ (eqb-true _ _ (sym c.loop-rest-test.ensures)))
