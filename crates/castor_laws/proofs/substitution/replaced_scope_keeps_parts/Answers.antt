use Rattle.castor_laws.proofs.SubstitutionPartLaws.{scope_frees_known, scope_stays_total}
use Rattle.castor_laws.proofs.substitution.replaced_scope_keeps_parts.Goals as goal

pub returns-clause-total : goal.returns-clause-total
returns-clause-total c = scope_stays_total

pub returns-clause-free : goal.returns-clause-free
returns-clause-free c = scope_frees_known
