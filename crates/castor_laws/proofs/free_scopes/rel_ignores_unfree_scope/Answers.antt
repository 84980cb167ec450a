use Rattle.castor_laws.proofs.FreeScopeLaws.{meaning_ignores}
use Rattle.castor_laws.proofs.free_scopes.rel_ignores_unfree_scope.Goals as goal

pub returns : goal.returns
returns c = meaning_ignores
