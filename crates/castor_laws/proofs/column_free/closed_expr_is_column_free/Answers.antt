use Rattle.castor_laws.proofs.ColumnFreeLaws.{closed_is_column_free}
use Rattle.castor_laws.proofs.column_free.closed_expr_is_column_free.Goals as goal

pub returns : goal.returns
returns c = closed_is_column_free
