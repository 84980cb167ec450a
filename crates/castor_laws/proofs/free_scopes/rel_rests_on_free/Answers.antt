use Rattle.castor_laws.proofs.FreeScopeLaws.{rel_rests}
use Rattle.castor_laws.proofs.free_scopes.rel_rests_on_free.Goals as goal

pub returns : goal.returns
returns c = rel_rests
