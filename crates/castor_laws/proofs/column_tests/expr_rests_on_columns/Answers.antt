use Rattle.castor_laws.proofs.ColumnTestLaws.{value_rests_on_columns}
use Rattle.castor_laws.proofs.column_tests.expr_rests_on_columns.Goals as goal

pub returns : goal.returns
returns c = value_rests_on_columns
