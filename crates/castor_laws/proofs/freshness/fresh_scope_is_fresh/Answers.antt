use Rattle.castor_laws.proofs.FreshnessLaws.{fresh_is_fresh}
use Rattle.castor_laws.proofs.freshness.fresh_scope_is_fresh.Goals as goal

pub returns : goal.returns
returns c = fresh_is_fresh
