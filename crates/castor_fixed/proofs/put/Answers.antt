use Rattle.std.proofs.Common.{drop}
use Rattle.byteorder.specs.Numbers.{little_number-reads_back}
use Rattle.castor_fixed.proofs.put.Goals as goal

pub returns-clause-read_back : goal.returns-clause-read_back
returns-clause-read_back c = rw c.write_uint.ensures (little_number-reads_back c.args.w c.args.n (drop c.args.w c.args.buf.now) c.requires.fits)
