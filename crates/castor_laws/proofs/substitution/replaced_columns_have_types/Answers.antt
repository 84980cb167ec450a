use Rattle.castor_laws.proofs.ColumnSubstitutionTypeLaws.{columns_have_types, columns_of_each_have_types}
use Rattle.castor_laws.proofs.substitution.replaced_columns_have_types.Goals as goal

pub returns-clause-one : goal.returns-clause-one
returns-clause-one c = columns_have_types

pub returns-clause-several : goal.returns-clause-several
returns-clause-several c = columns_of_each_have_types
