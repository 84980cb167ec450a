use Rattle.std.proofs.Common.{◌∙◌, ap, sym, refl, inr, Some}
use Rattle.std.specs.Option.{ok_or}
use Rattle.castor_alg.specs.declared.typing.TypeError.TheVariants.{Ill}
use Rattle.castor_alg.specs.Typing.{aggregate_type}
use Rattle.castor_alg.proofs.TypingLaws.{each-more, each-none}
use Rattle.castor_image.proofs.typing.lists.aggregate_types.Goals as goal

pub returns-in-None : goal.returns-in-None
returns-in-None c =
    inr (ap (λ types. ok_or types Ill) (each-none (aggregate_type c.args.columns.now) c.args.aggs.now c.loop-agg.agg-index _ _ c.loop-agg-test.true refl (sym c.aggregate_type.ensures ∙ c.in-None.is)))

pub loop-agg-preserved : goal.loop-agg-preserved
loop-agg-preserved c =
    each-more (aggregate_type c.args.columns.now) c.args.aggs.now c.loop-agg.agg-index _ _ _ c.in-Some.ty c.loop-agg-test.true refl c.loop-agg.invariant (sym c.aggregate_type.ensures ∙ c.in-Some.is)
    ∙ ap Some (sym c.in_ok-push-in-Some.ensures.items)
