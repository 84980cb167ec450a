use Rattle.castor_laws.proofs.ColumnTestLaws.{type_rests_on_columns}
use Rattle.castor_laws.proofs.column_tests.expr_type_rests_on_columns.Goals as goal

pub returns : goal.returns
returns c = type_rests_on_columns
