use Rattle.std.proofs.Common.{◌∙◌, ap, map}
use Rattle.castor_alg.specs.Groups.{grouped}
use Rattle.castor_reader.specs.Answers.{values_in}
use Rattle.castor_reader.proofs.group.group.Goals as goal

pub returns : goal.returns
returns c = c.in_ok-group_rows.ensures ∙ ap (λ rows. grouped c.args.ks.now c.args.aggs.now (record { rows = map values_in rows; faults = c.args.from.faults })) c.as_slice.ensures.value
