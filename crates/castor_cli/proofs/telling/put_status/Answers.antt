use Rattle.std.proofs.Common.{sym}
use Rattle.castor_cli.proofs.telling.put_status.Goals as goal

pub returns-in-Write : goal.returns-in-Write
returns-in-Write g c = rw (c.in-Write.is, sym c.place_name-place-in-Write.ensures) c.put_named-in-Write.ensures

pub returns-in-TooLong : goal.returns-in-TooLong
returns-in-TooLong g c = rw c.in-TooLong.is c.put_line-in-TooLong.ensures
