use Rattle.castor_laws.proofs.SourceFilterLaws.{filter_goes_to_source}
use Rattle.castor_laws.proofs.loops.filter_goes_to_source.Goals as goal

pub returns : goal.returns
returns c = filter_goes_to_source
