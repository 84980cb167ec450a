use Rattle.std.proofs.Common.{◌∙◌, ◌+◌, refl, sym, ap}
use Rattle.std.specs.Option.{option_copied}
use Rattle.castor_alg.proofs.PathLaws.{at_path-more, at_path-none}
use Rattle.castor_alg.proofs.places.at.Goals as goal

pub returns-in-None : goal.returns-in-None
returns-in-None c =
    let next = at_path-more c.args.path.now c.loop-number.number-index _ _ c.args.query.now c.loop-number.found.now _ c.loop-number-test.true refl c.loop-number.invariant c.operand.ensures in
    sym (at_path-none c.args.path.now (c.loop-number.number-index + 1) c.args.query.now (sym next ∙ ap option_copied c.in-None.is))

pub loop-number-preserved : goal.loop-number-preserved
loop-number-preserved c =
    let next = at_path-more c.args.path.now c.loop-number.number-index _ _ c.args.query.now c.loop-number.found.now _ c.loop-number-test.true refl c.loop-number.invariant c.operand.ensures in
    sym next ∙ ap option_copied c.in-Some.is
