use Rattle.std.proofs.Common.{◌∙◌, ap, map}
use Rattle.castor_val.specs.Values.{value_of}
use Rattle.castor_alg.specs.Expression.{expr_values}
use Rattle.castor_alg.specs.Rows.{selected}
use Rattle.castor_alg.specs.Scopes.{scopes_of}
use Rattle.castor_eval.proofs.project.select.Goals as goal

pub returns : goal.returns
returns c =
    c.made.ensures ∙ c.in_ok-out.ensures
    ∙ ap (λ rows. selected (λ row. expr_values c.args.es.now row (scopes_of c.args.env.now) (map value_of c.args.params.now)) (record { rows = rows; faults = c.args.from.faults })) c.as_slice.ensures
