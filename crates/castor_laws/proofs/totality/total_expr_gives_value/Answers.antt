use Rattle.castor_laws.proofs.TotalExprLaws.{total_gives_value}
use Rattle.castor_laws.proofs.totality.total_expr_gives_value.Goals as goal

pub returns : goal.returns
returns c = total_gives_value
