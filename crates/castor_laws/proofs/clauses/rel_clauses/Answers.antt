use Rattle.castor_laws.proofs.RelClauseLaws.{rel_clauses}
use Rattle.castor_laws.proofs.clauses.rel_clauses.Goals as goal

pub returns : goal.returns
returns c = rel_clauses
