use Rattle.std.proofs.Common.{◌∙◌, ap, arith, map}
use Rattle.std.proofs.lemmas.List.{length-map}
use Rattle.castor_val.specs.declared.row.Row.{Row}
use Rattle.castor_val.specs.Values.{value_of}
use Rattle.castor_alg.specs.Expression.{Answer, expr_value}
use Rattle.castor_alg.specs.Rows.{faults_in, is_true}
use Rattle.castor_alg.specs.Scopes.{scopes_of}
use Rattle.castor_eval.proofs.LoopLaws.{over_whole}
use Rattle.castor_reader.specs.Answers.{values_in}
use Rattle.castor_reader.proofs.RowLaws.{at-view, below-view, faults-more, mapped-more}
use Rattle.castor_reader.proofs.filter.test_rows.Goals as goal

pub loop-row-preserved : goal.loop-row-preserved
loop-row-preserved c =
    let f : Row → Answer = λ row. expr_value c.args.e.now row (scopes_of c.args.env.now) (map value_of c.args.params.now) in
    let rows = map values_in c.args.rows.now in
    let i = c.loop-row.row-index in
    let item = values_in c.row-item.result in
    let within = below-view values_in c.args.rows.now i c.loop-row-test.true in
    let at = at-view values_in c.args.rows.now i c.row-item.result c.loop-row-test.true c.row-item.is in
    let answer = c.value.ensures ∙ ap (λ cs. f (map value_of cs)) c.as_slice.ensures.value in
    record {
      marks = mapped-more (λ row. is_true (f row)) rows i item _ _ _ within at c.loop-row.invariant.marks (c.test_of-test.ensures.holds ∙ ap is_true answer) c.in_ok-push.ensures.items;
      faults = faults-more (λ row. faults_in (f row)) rows i item _ _ _ within at c.loop-row.invariant.faults (c.test_of-test.ensures.faults ∙ ap faults_in answer) c.union-faults.ensures;
    }

pub returns-clause-faults : goal.returns-clause-faults
returns-clause-faults c =
    over_whole (λ (row : Row). faults_in (expr_value c.args.e.now row (scopes_of c.args.env.now) (map value_of c.args.params.now))) (map values_in c.args.rows.now) c.loop-row.row-index _
    (omega (arith, c.loop-row-test.false, length-map c.args.rows.now values_in)) c.loop-row.invariant.faults
