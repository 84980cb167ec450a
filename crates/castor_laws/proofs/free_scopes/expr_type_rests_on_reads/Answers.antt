use Rattle.castor_laws.proofs.TypeScopeLaws.{expr_type_rests}
use Rattle.castor_laws.proofs.free_scopes.expr_type_rests_on_reads.Goals as goal

pub returns : goal.returns
returns c = expr_type_rests
