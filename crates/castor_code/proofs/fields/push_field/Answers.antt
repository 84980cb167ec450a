use Rattle.std.proofs.Common.{◌^◌, ◌<◌, subst, sym}
use Rattle.castor_fixed.proofs.FieldLaws.{below-width}
use Rattle.castor_code.proofs.fields.push_field.Goals as goal

pub put-requires-clause-fits : goal.put-requires-clause-fits
put-requires-clause-fits c = subst (λ w. c.args.number < 256 ^ w) (sym c.field_width-width.ensures.value) (below-width c.args.most c.args.number c.requires)
