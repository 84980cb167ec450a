use Rattle.std.proofs.Common.{◌≡◌, take}
use Rattle.castor_val.specs.Columns.{types_of}
use Rattle.castor_image.proofs.image.head_context.Given as goal

abbrev pub invariant-loop-param : goal.invariant-loop-param
invariant-loop-param l = l.params ≡ types_of (take l.param-index l.head.params)
