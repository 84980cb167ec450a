use Rattle.std.proofs.Common.{◌≡◌, ◌++◌, take, drop, ap, ◌∙◌, arith}
use Rattle.byteorder.specs.Endian.{little_bytes}
use Rattle.std.proofs.lemmas.List.{take-append-drop}
use Rattle.byteorder.specs.Numbers.{little_from-lt}
use Rattle.castor_fixed.proofs.ByteLaws.{bytes-little_from}
use Rattle.castor_fixed.proofs.FieldLaws.{fields_read}
use Rattle.castor_fixed.proofs.get.Goals as goal

pub returns-then-w-eq0-clause-law : goal.returns-then-w-eq0-clause-law
returns-then-w-eq0-clause-law c = fields_read

pub returns-clause-law : goal.returns-clause-law
returns-clause-law c = fields_read

pub returns-clause-fits : goal.returns-clause-fits
returns-clause-fits c = rw c.read_uint.ensures (little_from-lt 0 c.args.w c.args.buf.now (λ k. omega (arith, c.type_inv.buf k)))

first_bytes : (c : goal.After-read_uint) → little_bytes c.args.w c.read_uint.result ≡ take c.args.w c.args.buf.now
first_bytes c = rw c.read_uint.ensures (bytes-little_from c.args.w c.args.buf.now (λ k. omega (arith, c.type_inv.buf k)) c.requires.room)

pub returns-clause-bytes : goal.returns-clause-bytes
returns-clause-bytes c = first_bytes c

pub returns-clause-written_back : goal.returns-clause-written_back
returns-clause-written_back c = ap (λ bytes. bytes ++ drop c.args.w c.args.buf.now) (first_bytes c) ∙ take-append-drop c.args.w c.args.buf.now
