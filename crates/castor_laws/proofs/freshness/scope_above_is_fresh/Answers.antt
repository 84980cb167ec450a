use Rattle.castor_laws.proofs.FreshnessLaws.{above_is_fresh}
use Rattle.castor_laws.proofs.freshness.scope_above_is_fresh.Goals as goal

pub returns : goal.returns
returns c = above_is_fresh
