use Rattle.castor_cli.proofs.Preparing.{rest_built}
use Rattle.castor_cli.proofs.preparation.prepare_rest.Goals as goal

pub returns-in-Ok-clause-rest : goal.returns-in-Ok-clause-rest
returns-in-Ok-clause-rest g c = rest_built _ _ (λ name. _) _ _ _ _ _ c.in-Ok.ensures.tables (rw c.as_slice.ensures at c.build.ensures)
