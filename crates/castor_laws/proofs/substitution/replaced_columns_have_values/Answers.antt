use Rattle.castor_laws.proofs.ColumnSubstitutionLaws.{columns_have_values}
use Rattle.castor_laws.proofs.substitution.replaced_columns_have_values.Goals as goal

pub returns : goal.returns
returns c = columns_have_values
