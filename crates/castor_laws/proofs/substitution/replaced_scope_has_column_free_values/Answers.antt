use Rattle.castor_laws.proofs.ColumnFreeSubstitutionLaws.{scope_has_column_free_values}
use Rattle.castor_laws.proofs.substitution.replaced_scope_has_column_free_values.Goals as goal

pub returns : goal.returns
returns c = scope_has_column_free_values
