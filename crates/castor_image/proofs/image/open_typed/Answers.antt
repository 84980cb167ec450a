use Rattle.castor_image.proofs.OpenLaws.{types_refused}
use Rattle.castor_image.proofs.image.open_typed.Goals as goal

pub returns : goal.returns
returns c = types_refused c.args.head c.args.code c.args.data_part.now c.in-Err.why c.requires.formed c.in-Err.ensures
