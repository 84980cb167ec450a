use Rattle.std.proofs.Common.{◌∙◌, length, map}
use Rattle.castor_ltype.specs.Places.{entries}
use Rattle.castor_ltype.specs.Sizes.{added, sums}
use Rattle.castor_ltype.proofs.LaidLaws.{ord_coded, ord_sized}
use Rattle.castor_ltype.proofs.indexes.ord.Goals as goal

pub returns-clause-code : goal.returns-clause-code
returns-clause-code c =
    let summed = c.in_ok-ranges.ensures.bodies ∙ (λ i. sums (map (λ h. length (entries h)) (map (λ h. h.now) c.args.held.now)) (added (c.as_slice.ensures.value i) (c.as_slice-2.ensures.value i))) in
    ord_coded _ c.args.key.code c.args.kid.code c.args.key.sizes.items c.args.kid.sizes.items c.in_ok-ranges.ranges.bodies.items c.requires.keys c.requires.kids summed c.in_ok-ranges.ranges.count c.in_ok-ranges.ranges.body _ _ _ c.in_ok-ranges.ensures.count c.in_ok-ranges.ensures.body c.in_ok-node.ensures

pub returns-clause-sizes : goal.returns-clause-sizes
returns-clause-sizes c =
    let summed = c.in_ok-ranges.ensures.bodies ∙ (λ i. sums (map (λ h. length (entries h)) (map (λ h. h.now) c.args.held.now)) (added (c.as_slice.ensures.value i) (c.as_slice-2.ensures.value i))) in
    ord_sized _ c.args.key.code c.args.kid.code c.args.key.sizes.items c.args.kid.sizes.items c.in_ok-ranges.ranges.bodies.items c.requires.keys c.requires.kids summed c.in_ok-ranges.ranges.count c.in_ok-ranges.ranges.body _ _ _ _ _ c.in_ok-frames.ensures (c.in_ok-sizes.ensures ∙ (λ i. added (c.as_slice-3.ensures.value i) (c.as_slice-4.ensures.value i))) c.in_ok-node.ensures
