use Rattle.csv.specs.Records.{fields_of}
use Rattle.castor_load.proofs.Steps.{step}
use Rattle.castor_load.proofs.records.Records.next.Goals as goal

pub returns-in-Ok : goal.returns-in-Ok
returns-in-Ok c = step c.args.self.now.reader c.read_byte_record.new.self (fields_of c.read_byte_record.new.row) c.in-Ok.found c.requires c.in-Ok.ensures.flexible (c.in-Ok.ensures.ready c.requires.trim) (c.in-Ok.ensures.reads c.requires.trim c.requires.ready)
