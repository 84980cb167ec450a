use Rattle.castor_laws.proofs.TotalRelLaws.{total_gives_no_faults}
use Rattle.castor_laws.proofs.totality.total_rel_gives_no_faults.Goals as goal

pub returns : goal.returns
returns c = total_gives_no_faults
