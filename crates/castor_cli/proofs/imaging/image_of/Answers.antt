use Rattle.castor_cli.proofs.Layouts.{can_be_written, image_due}
use Rattle.castor_cli.proofs.imaging.image_of.Goals as goal

pub write_image-requires : goal.write_image-requires
write_image-requires c = can_be_written _ _ _ _ _ c.requires c.in-Ok.ensures c.in-Ok-layout_of.ensures

pub returns : goal.returns
returns c = image_due c.args.checked.now c.args.last.now c.args.held.now _ _ _ c.in-Ok.ensures c.in-Ok-layout_of.ensures c.write_image.ensures
