use Rattle.castor_cli.proofs.Querying.{reads_tree}
use Rattle.castor_cli.proofs.query.read_query.Goals as goal

pub returns-in-Ok-clause-reads : goal.returns-in-Ok-clause-reads
returns-in-Ok-clause-reads c = reads_tree _ c.in-Ok.file _ c.in-Ok.ensures.ok c.check_tree-checked.ensures.reads
