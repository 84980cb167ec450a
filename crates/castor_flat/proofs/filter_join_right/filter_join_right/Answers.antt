use Rattle.std.proofs.Common.{◌≡◌, Some, rules}
use Rattle.castor_flat.specs.Forms.{filter_of, join_of}
use Rattle.castor_flat.proofs.JoinFormLaws.{right_made}
use Rattle.castor_flat.proofs.filter_join_right.filter_join_right.Goals as goal

pub returns : goal.returns
returns c =
    let whole : filter_of c.args.query.now ≡ Some (c.in-Some.condition.now, c.in-Some.inner.now) = search rules in
    let below : join_of c.in-Some.inner.now ≡ Some (c.in-Some-join_of.joining.now, c.in-Some-join_of.left.now, c.in-Some-join_of.right.now) = search rules in
    right_made c.args.tables.now _ _ _ _ _ _ _ _ _ whole below c.in_ok-first.ensures.left c.in_ok-first.ensures.right c.to_right.ensures
