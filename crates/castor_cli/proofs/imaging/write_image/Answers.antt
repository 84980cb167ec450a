use Rattle.std.proofs.Common.{◌∙◌, sym}
use Rattle.castor_cli.proofs.Layouts.{small_image}
use Rattle.castor_cli.proofs.imaging.write_image.Goals as goal

pub returns-in-Ok : goal.returns-in-Ok
returns-in-Ok c = small_image _ _ _ _ c.requires (λ stored same. sym c.in-Ok-false.field-0-test ∙ c.in-Ok-false.ensures stored same) c.in-Ok.ensures
