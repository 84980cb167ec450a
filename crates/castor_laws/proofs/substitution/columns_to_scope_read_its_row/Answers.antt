use Rattle.castor_laws.proofs.ColumnSubstitutionLaws.{columns_are_of_scope}
use Rattle.castor_laws.proofs.substitution.columns_to_scope_read_its_row.Goals as goal

pub returns : goal.returns
returns c = columns_are_of_scope
