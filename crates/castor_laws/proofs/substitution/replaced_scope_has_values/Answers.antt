use Rattle.castor_laws.proofs.ScopeSubstitutionLaws.{scope_has_values}
use Rattle.castor_laws.proofs.substitution.replaced_scope_has_values.Goals as goal

pub returns : goal.returns
returns c = scope_has_values
