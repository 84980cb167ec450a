use Rattle.castor_cli.proofs.Querying.{reads_query}
use Rattle.castor_cli.proofs.preparation.read_checked.Goals as goal

pub returns-in-Ok-clause-reading : goal.returns-in-Ok-clause-reading
returns-in-Ok-clause-reading g c =
    reads_query _ _ _ _ _ _ c.in-Ok.ensures.reading (rw c.deref.ensures.value at c.read_query.ensures.reads)
