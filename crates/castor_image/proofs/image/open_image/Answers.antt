use Rattle.castor_image.specs.declared.image.Image.{Image}
use Rattle.castor_image.specs.Frames.{frame_of}
use Rattle.castor_image.proofs.ImageLaws.{images_are_told, valid_frame}
use Rattle.castor_image.proofs.OpenLaws.{frame_opened, frame_refused}
use Rattle.castor_image.proofs.image.open_image.Goals as goal

pub open_code-requires : goal.open_code-requires
open_code-requires c = record { valid = valid_frame _ c.args.bytes.now c.in-Ok.ensures }

pub returns-in-Ok-clause-value : goal.returns-in-Ok-clause-value
returns-in-Ok-clause-value c =
    let frame = frame_of c.in-Ok.frame.head c.in-Ok.frame.code.now c.in-Ok.frame.data_part.now in
    frame_opened (λ (i : Image). i.head) (λ (i : Image). i.code) (λ (i : Image). i.held) frame c.args.bytes.now c.open_code.result c.in-Ok.ensures c.open_code.ensures

pub returns-in-Ok-clause-law : goal.returns-in-Ok-clause-law
returns-in-Ok-clause-law c = images_are_told

pub returns-in-Err-clause-value : goal.returns-in-Err-clause-value
returns-in-Err-clause-value c = frame_refused c.args.bytes.now c.in-Err.why c.in-Err.ensures

pub returns-in-Err-clause-law : goal.returns-in-Err-clause-law
returns-in-Err-clause-law c = images_are_told
