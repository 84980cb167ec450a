use Rattle.std.proofs.Common.{◌∙◌, SFits, rules, w64}
use Rattle.std.proofs.lemmas.Int.{to_z-of_z}
use Rattle.castor_ltype.specs.Ranges.{greater, lesser}
use Rattle.castor_ltype.proofs.LoopLaws.{fold_more}
use Rattle.castor_ltype.proofs.ranges.least_ends.Goals as goal

pub loop-number-preserved : goal.loop-number-preserved
loop-number-preserved c =
    let lo_fits : SFits w64 c.lesser-lo.result = search rules in
    let hi_fits : SFits w64 c.greater-hi.result = search rules in
    record {
      lo = to_z-of_z w64 c.lesser-lo.result lo_fits ∙ fold_more lesser _ _ _ _ _ _ c.loop-number-test.true (search rules) c.loop-number.invariant.lo c.lesser-lo.ensures;
      hi = to_z-of_z w64 c.greater-hi.result hi_fits ∙ fold_more greater _ _ _ _ _ _ c.loop-number-test.true (search rules) c.loop-number.invariant.hi c.greater-hi.ensures;
    }
