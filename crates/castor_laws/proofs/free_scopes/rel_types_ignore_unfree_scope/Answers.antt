use Rattle.castor_laws.proofs.TypeScopeLaws.{types_ignore}
use Rattle.castor_laws.proofs.free_scopes.rel_types_ignore_unfree_scope.Goals as goal

pub returns : goal.returns
returns c = types_ignore
