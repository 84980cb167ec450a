use Rattle.std.proofs.Common.{◌∙◌, ap, sym, refl, inr, slice_get, Some}
use Rattle.std.specs.Option.{ok_or}
use Rattle.castor_alg.specs.declared.typing.TypeError.TheVariants.{Ill}
use Rattle.castor_alg.proofs.TypingLaws.{each-more, each-none}
use Rattle.castor_image.proofs.typing.lists.key_types.Goals as goal

pub returns-in-None : goal.returns-in-None
returns-in-None c =
    inr (ap (λ types. ok_or types Ill) (each-none (λ k. slice_get c.args.columns.now k) c.args.keys.now c.loop-key.key-index _ _ c.loop-key-test.true refl (sym c.type_at.ensures ∙ c.in-None.is)))

pub loop-key-preserved : goal.loop-key-preserved
loop-key-preserved c =
    each-more (λ k. slice_get c.args.columns.now k) c.args.keys.now c.loop-key.key-index _ _ _ c.in-Some.ty c.loop-key-test.true refl c.loop-key.invariant (sym c.type_at.ensures ∙ c.in-Some.is)
    ∙ ap Some (sym c.in_ok-push-in-Some.ensures.items)
