use Rattle.castor_laws.proofs.SubstitutionPartLaws.{columns_are_gone, columns_read_known, columns_stay_total}
use Rattle.castor_laws.proofs.substitution.replaced_columns_keep_parts.Goals as goal

pub returns-clause-total : goal.returns-clause-total
returns-clause-total c = columns_stay_total

pub returns-clause-reads : goal.returns-clause-reads
returns-clause-reads c = columns_read_known

pub returns-clause-column_free : goal.returns-clause-column_free
returns-clause-column_free c = columns_are_gone
