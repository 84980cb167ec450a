use Rattle.castor_laws.proofs.FreeScopeLaws.{value_ignores}
use Rattle.castor_laws.proofs.free_scopes.expr_ignores_unread_scope.Goals as goal

pub returns : goal.returns
returns c = value_ignores
