use Rattle.castor_laws.proofs.ColumnFreeLaws.{value_without_columns}
use Rattle.castor_laws.proofs.column_free.column_free_expr_ignores_row.Goals as goal

pub returns : goal.returns
returns c = value_without_columns
