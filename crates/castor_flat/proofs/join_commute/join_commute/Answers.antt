use Rattle.std.proofs.Common.{◌≡◌, Some, rules}
use Rattle.castor_flat.specs.Forms.{join_of}
use Rattle.castor_flat.proofs.JoinFormLaws.{commuted_made}
use Rattle.castor_flat.proofs.join_commute.join_commute.Goals as goal

pub returns : goal.returns
returns c =
    let whole : join_of c.args.query.now ≡ Some (c.in-Some.condition.now, c.in-Some.left.now, c.in-Some.right.now) = search rules in
    commuted_made c.args.tables.now _ _ _ _ _ _ _ whole c.in_ok-first.ensures.left c.in_ok-first.ensures.right (c.given.ensures _ c.commuted.ensures)
