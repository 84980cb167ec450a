use Rattle.castor_laws.proofs.TypeScopeLaws.{rel_types_rest}
use Rattle.castor_laws.proofs.free_scopes.rel_types_rest_on_free.Goals as goal

pub returns : goal.returns
returns c = rel_types_rest
