use Rattle.castor_laws.proofs.TypeScopeLaws.{type_ignores}
use Rattle.castor_laws.proofs.free_scopes.expr_type_ignores_unread_scope.Goals as goal

pub returns : goal.returns
returns c = type_ignores
