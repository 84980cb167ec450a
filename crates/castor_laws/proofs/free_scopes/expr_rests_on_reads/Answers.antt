use Rattle.castor_laws.proofs.FreeScopeLaws.{expr_rests}
use Rattle.castor_laws.proofs.free_scopes.expr_rests_on_reads.Goals as goal

pub returns : goal.returns
returns c = expr_rests
