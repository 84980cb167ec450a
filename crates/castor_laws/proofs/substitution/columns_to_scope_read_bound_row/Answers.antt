use Rattle.castor_laws.proofs.ColumnSubstitutionTypeLaws.{columns_of_each_are_of_bound}
use Rattle.castor_laws.proofs.substitution.columns_to_scope_read_bound_row.Goals as goal

pub returns : goal.returns
returns c = columns_of_each_are_of_bound
