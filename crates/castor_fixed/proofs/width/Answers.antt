use Rattle.std.proofs.Common.{◌≡◌, subst, sym, rules}
use Rattle.castor_fixed.specs.Fields.{IsFewestBytes, range_width}
use Rattle.castor_fixed.proofs.RangeLaws.{range_width-fewest}
use Rattle.castor_fixed.proofs.width.Goals as goal

pub returns-clause-fewest : goal.returns-clause-fewest
returns-clause-fewest c =
    let is : c.fewest_bytes.result ≡ range_width c.args.lo c.args.hi = search rules in
    subst (IsFewestBytes c.args.lo c.args.hi) (sym is) (range_width-fewest c.args.lo c.args.hi c.requires.order c.requires.span)
