use Rattle.castor_laws.proofs.ExprClauseLaws.{expr_clauses}
use Rattle.castor_laws.proofs.clauses.expr_clauses.Goals as goal

pub returns : goal.returns
returns c = expr_clauses
