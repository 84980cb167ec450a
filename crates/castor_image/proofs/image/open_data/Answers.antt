use Rattle.castor_image.proofs.OpenLaws.{data_refused, held_fits}
use Rattle.castor_image.proofs.image.open_data.Goals as goal

pub returns : goal.returns
returns c = data_refused c.args.head c.args.code c.args.data_part.now c.in-Err.why c.requires.formed c.in-Err.ensures

pub invariant_of-result-clause-fitting : goal.invariant_of-result-clause-fitting
invariant_of-result-clause-fitting c = held_fits c.args.code c.args.data_part.now c.in-Ok.held c.in-Ok.ensures
