use Rattle.std.proofs.Common.{◌∙◌, ◌+ℤ◌, SFits, w64, rules, arith, sym, ap}
use Rattle.std.specs.Int.{w128}
use Rattle.std.proofs.lemmas.Int.{ints, to_z-of_z}
use Rattle.castor_alg.specs.Groups as groups
use Rattle.castor_reader.proofs.AggregateLaws.{total-more}
use Rattle.castor_reader.proofs.aggregate.sum.Goals as goal

pub loop-row-preserved : goal.loop-row-preserved
loop-row-preserved c =
    let sum_fits : SFits w128 c.add-total.result = search rules in
    let number_fits : SFits w64 c.int_in.result = search rules in
    let next = to_z-of_z w64 c.int_in.result number_fits ∙ c.int_in.ensures ∙ ap groups.int_in c.cell_at.ensures in
    record {
      total = to_z-of_z w128 c.add-total.result sum_fits ∙ c.add-total.ensures ∙ (λ j. c.loop-row.invariant.total j +ℤ next j) ∙ sym (total-more c.args.at c.args.rows.now c.loop-row.row-index _ c.loop-row-test.true);
      least = omega (arith, ints);
      most = omega (arith, ints);
    }
