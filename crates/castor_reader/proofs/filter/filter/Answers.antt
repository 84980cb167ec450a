use Rattle.std.proofs.Common.{◌∙◌, ap, map, refl}
use Rattle.castor_val.specs.declared.row.Row.{Row}
use Rattle.castor_val.specs.Values.{value_of}
use Rattle.castor_alg.specs.Expression.{expr_value}
use Rattle.castor_alg.specs.Scopes.{scopes_of}
use Rattle.castor_eval.specs.Marks.{marked}
use Rattle.castor_eval.proofs.LoopLaws.{filtered_by_marks}
use Rattle.castor_reader.specs.Answers.{out_of, values_in}
use Rattle.castor_reader.proofs.RowLaws.{marked-view}
use Rattle.castor_reader.proofs.filter.filter.Goals as goal

pub returns : goal.returns
returns c =
    let rows = c.args.from.rows.items in
    let marks = c.in_ok-tests.tests.marks.items in
    filtered_by_marks (λ (row : Row). expr_value c.args.e.now row (scopes_of c.args.env.now) (map value_of c.args.params.now)) (out_of c.args.from) _ marks _ _ _ _
    (ap (map values_in) c.as_slice.ensures.value) c.in_ok-tests.ensures.marks c.in_ok-tests.ensures.faults
    (ap (map values_in) (c.in_ok-keep_marked.ensures ∙ ap (λ ms. marked ms rows) c.as_slice-2.ensures.value) ∙ marked-view values_in marks rows) c.union.ensures refl
