use Rattle.std.proofs.Common.{◌∙◌}
use Rattle.castor_alg.specs.FreshScope.{scope_numbers}
use Rattle.castor_alg.proofs.FreshLaws.{raised_all}
use Rattle.castor_alg.proofs.scope_numbers.fresh.Goals as goal

pub returns : goal.returns
returns c = c.raise_over.ensures ∙ raised_all 0 (scope_numbers c.args.query.now)
