use Rattle.std.proofs.Common.{length}
use Rattle.castor_cli.proofs.preparation.+load_tables.Given as goal

abbrev pub decreases-load_tables : goal.decreases-load_tables
decreases-load_tables g l = length l.declared.now
