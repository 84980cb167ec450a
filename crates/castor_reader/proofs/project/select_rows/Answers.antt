use Rattle.std.proofs.Common.{◌∙◌, Result, ap, arith, map, refl}
use Rattle.std.proofs.lemmas.List.{length-map}
use Rattle.castor_val.specs.declared.fault.Faults.{Faults}
use Rattle.castor_val.specs.declared.row.Row.{Row}
use Rattle.castor_val.specs.Values.{value_of}
use Rattle.castor_alg.specs.Expression.{expr_values}
use Rattle.castor_alg.specs.Rows.{faults_in, row_in}
use Rattle.castor_alg.specs.Scopes.{scopes_of}
use Rattle.castor_eval.proofs.LoopLaws.{selected_whole}
use Rattle.castor_reader.specs.Answers.{values_in}
use Rattle.castor_reader.proofs.RowLaws.{at-view, below-view, faults-beside, flat-more}
use Rattle.castor_reader.proofs.project.select_rows.Goals as goal

pub loop-row-preserved : goal.loop-row-preserved
loop-row-preserved c =
    let f : Row → Result Row Faults = λ row. expr_values c.args.es.now row (scopes_of c.args.env.now) (map value_of c.args.params.now) in
    let rows = map values_in c.args.rows.now in
    let i = c.loop-row.row-index in
    let item = values_in c.row-item.result in
    let within = below-view values_in c.args.rows.now i c.loop-row-test.true in
    let at = at-view values_in c.args.rows.now i c.row-item.result c.loop-row-test.true c.row-item.is in
    let answer = c.in_ok-values.ensures ∙ ap (λ cs. f (map value_of cs)) c.as_slice.ensures.value in
    record {
      rows = flat-more (λ row. row_in (f row)) rows i item _ _ _ within at c.loop-row.invariant.rows (ap row_in answer) c.in_ok-add_row.ensures.rows;
      faults = faults-beside (λ row. faults_in (f row)) rows i item _ _ _ _ within at c.loop-row.invariant.faults (ap faults_in answer) c.in_ok-add_row.ensures.faults;
    }

pub returns : goal.returns
returns c =
    selected_whole (λ (row : Row). expr_values c.args.es.now row (scopes_of c.args.env.now) (map value_of c.args.params.now)) (record { rows = map values_in c.args.rows.now; faults = c.args.faults }) _ _ _ _
    (omega (arith, c.loop-row-test.false, length-map c.args.rows.now values_in)) c.loop-row.invariant.rows c.loop-row.invariant.faults refl
