use Rattle.castor_laws.proofs.ColumnFreeLaws.{type_without_columns}
use Rattle.castor_laws.proofs.column_free.column_free_expr_type_ignores_columns.Goals as goal

pub returns : goal.returns
returns c = type_without_columns
