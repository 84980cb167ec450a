use Rattle.castor_laws.proofs.ColumnSubstitutionTypeLaws.{columns_have_bound_types, columns_have_scope_types, columns_of_each_have_bound_types}
use Rattle.castor_laws.proofs.substitution.columns_to_scope_have_its_types.Goals as goal

pub returns-clause-scope : goal.returns-clause-scope
returns-clause-scope c = columns_have_scope_types

pub returns-clause-bound : goal.returns-clause-bound
returns-clause-bound c = columns_have_bound_types

pub returns-clause-several : goal.returns-clause-several
returns-clause-several c = columns_of_each_have_bound_types
