use Rattle.std.proofs.Common.{map, ◌∙◌, ap}
use Rattle.castor_val.specs.declared.row.Row.{Row}
use Rattle.castor_val.specs.Values.{value_of}
use Rattle.castor_alg.specs.Expression.{expr_value}
use Rattle.castor_alg.specs.Scopes.{scopes_of}
use Rattle.castor_eval.specs.Marks.{marked}
use Rattle.castor_eval.specs.Parts.{out_of}
use Rattle.castor_eval.proofs.LoopLaws.{filtered_by_marks}
use Rattle.castor_eval.proofs.filter.filter.Goals as goal

pub returns : goal.returns
returns c =
    filtered_by_marks (λ (row : Row). expr_value c.args.e.now row (scopes_of c.args.env.now) (map value_of c.args.params.now)) (out_of c.args.from) _ c.in_ok-tests.tests.marks.items _ _ _ _
    c.as_slice.ensures c.in_ok-tests.ensures.marks c.in_ok-tests.ensures.faults (c.in_ok-keep_marked.ensures ∙ ap (λ ms. marked ms (out_of c.args.from).rows) c.as_slice-2.ensures.value) c.union.ensures c.made.ensures
