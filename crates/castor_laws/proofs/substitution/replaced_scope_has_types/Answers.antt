use Rattle.castor_laws.proofs.ScopeSubstitutionTypeLaws.{scope_has_column_types, scope_has_types, scope_is_typed}
use Rattle.castor_laws.proofs.substitution.replaced_scope_has_types.Goals as goal

pub returns-clause-types : goal.returns-clause-types
returns-clause-types c = scope_has_types

pub returns-clause-column_types : goal.returns-clause-column_types
returns-clause-column_types c = scope_has_column_types

pub returns-clause-typed : goal.returns-clause-typed
returns-clause-typed c = scope_is_typed
