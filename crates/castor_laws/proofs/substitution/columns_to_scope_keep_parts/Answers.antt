use Rattle.castor_laws.proofs.SubstitutionPartLaws.{columns_are_gone_to_scope, columns_of_scope_stay_total, columns_read_scope}
use Rattle.castor_laws.proofs.substitution.columns_to_scope_keep_parts.Goals as goal

pub returns-clause-total : goal.returns-clause-total
returns-clause-total c = columns_of_scope_stay_total

pub returns-clause-reads : goal.returns-clause-reads
returns-clause-reads c = columns_read_scope

pub returns-clause-column_free : goal.returns-clause-column_free
returns-clause-column_free c = columns_are_gone_to_scope
