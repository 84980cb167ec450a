use Rattle.castor_schema.proofs.CheckLaws.{checked-sound}
use Rattle.castor_schema.proofs.file.check.Goals as goal

pub returns-in-Ok-clause-typed : goal.returns-in-Ok-clause-typed
returns-in-Ok-clause-typed c = (checked-sound c.args.file.now c.in-Ok.checked c.requires.formed c.in-Ok.ensures).typed

pub returns-in-Ok-clause-closed : goal.returns-in-Ok-clause-closed
returns-in-Ok-clause-closed c = (checked-sound c.args.file.now c.in-Ok.checked c.requires.formed c.in-Ok.ensures).closed

pub returns-in-Ok-clause-large : goal.returns-in-Ok-clause-large
returns-in-Ok-clause-large c = (checked-sound c.args.file.now c.in-Ok.checked c.requires.formed c.in-Ok.ensures).large

pub returns-in-Ok-clause-limits : goal.returns-in-Ok-clause-limits
returns-in-Ok-clause-limits c = (checked-sound c.args.file.now c.in-Ok.checked c.requires.formed c.in-Ok.ensures).limits

pub returns-in-Ok-clause-names : goal.returns-in-Ok-clause-names
returns-in-Ok-clause-names c = (checked-sound c.args.file.now c.in-Ok.checked c.requires.formed c.in-Ok.ensures).names
