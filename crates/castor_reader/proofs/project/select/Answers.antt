use Rattle.std.proofs.Common.{◌∙◌, ap, map}
use Rattle.castor_val.specs.Values.{value_of}
use Rattle.castor_alg.specs.Expression.{expr_values}
use Rattle.castor_alg.specs.Rows.{selected}
use Rattle.castor_alg.specs.Scopes.{scopes_of}
use Rattle.castor_reader.specs.Answers.{values_in}
use Rattle.castor_reader.proofs.project.select.Goals as goal

pub returns : goal.returns
returns c =
    c.in_ok-select_rows.ensures
    ∙ ap (λ rows. selected (λ row. expr_values c.args.es.now row (scopes_of c.args.env.now) (map value_of c.args.params.now)) (record { rows = map values_in rows; faults = c.args.from.faults })) c.as_slice.ensures.value
