use Rattle.castor_image.specs.declared.image.Image.{Image}
use Rattle.castor_image.proofs.OpenLaws.{code_opened, code_refused}
use Rattle.castor_image.proofs.image.open_code.Goals as goal

pub returns-in-Ok : goal.returns-in-Ok
returns-in-Ok c =
    code_opened (λ (i : Image). i.head) (λ (i : Image). i.code) (λ (i : Image). i.held) _ c.in-Ok.code _ _ c.open_typed.result c.in-Ok.ensures.1 c.open_typed.ensures

pub returns-in-Err : goal.returns-in-Err
returns-in-Err c = code_refused _ _ _ c.in-Err.why c.in-Err.ensures
