use Rattle.std.proofs.Common.{◌≡◌, subst, sym}
use Rattle.castor_image.specs.Images.{Content, IsImageOf}
use Rattle.castor_cli.specs.Answers.{content_in}
use Rattle.castor_cli.proofs.Ends.{image_ends, printed_by}
use Rattle.castor_cli.proofs.asking.answer_image.Goals as goal

pub returns-in-Ok-clause-printed : goal.returns-in-Ok-clause-printed
returns-in-Ok-clause-printed g c =
    printed_by (λ x. x ≡ content_in c.in-Ok.image) (λ x. IsImageOf x c.args.bytes.now) _ _ _ _
    (λ x is. subst (λ (y : Content). IsImageOf y c.args.bytes.now) (sym is) c.in-Ok.ensures.value) c.answer_input.ensures.printed

pub returns-in-Ok-clause-ends : goal.returns-in-Ok-clause-ends
returns-in-Ok-clause-ends g c = image_ends _ _ _ _ _ c.in-Ok.ensures.value c.answer_input.ensures.ends
