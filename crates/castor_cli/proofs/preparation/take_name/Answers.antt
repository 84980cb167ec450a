use Rattle.std.proofs.Common.{arith}
use Rattle.castor_cli.proofs.Preparing.{nth_name-at, nth_name-past}
use Rattle.castor_cli.proofs.preparation.take_name.Goals as goal

pub returns-then-at-len : goal.returns-then-at-len
returns-then-at-len c =
    rw (c.new-then-at-len.ensures, c.new.ensures.bytes) (nth_name-past c.args.tables c.args.number (omega (arith, c.if-at-len.true, c.len.ensures)))

pub returns : goal.returns
returns c = nth_name-at c.args.tables c.args.number _ c.remove-name.ensures.item
