use Rattle.std.proofs.Common.{◌∙◌, ap, sym, inr, Some}
use Rattle.std.specs.Option.{ok_or}
use Rattle.castor_alg.specs.declared.expr.Expr.{Expr}
use Rattle.castor_alg.specs.declared.typing.TypeError.TheVariants.{Ill}
use Rattle.castor_alg.specs.TypeEnvs.{context_of}
use Rattle.castor_alg.specs.Typing.{type_under}
use Rattle.castor_alg.proofs.TypingLaws.{each-more, each-none}
use Rattle.castor_image.proofs.typing.types_of_each.Goals as goal

pub returns-in-None : goal.returns-in-None
returns-in-None c =
    inr (ap (λ types. ok_or types Ill) (each-none (λ (e : Expr). type_under e c.args.columns.now (context_of c.args.env.now)) c.args.es.now c.loop-e.e-index c.e-item.result c.e-item.result c.loop-e-test.true c.e-item.is (sym c.expr_type_in.ensures ∙ c.in-None.is)))

pub loop-e-preserved : goal.loop-e-preserved
loop-e-preserved c =
    each-more (λ (e : Expr). type_under e c.args.columns.now (context_of c.args.env.now)) c.args.es.now c.loop-e.e-index c.e-item.result c.e-item.result _ c.in-Some.ty c.loop-e-test.true c.e-item.is c.loop-e.invariant (sym c.expr_type_in.ensures ∙ c.in-Some.is)
    ∙ ap Some (sym c.in_ok-push-in-Some.ensures.items)
