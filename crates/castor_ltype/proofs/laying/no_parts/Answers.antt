use Rattle.std.proofs.Common.{sym}
use Rattle.std.proofs.lemmas.List.{length-map}
use Rattle.castor_ltype.proofs.LayingLaws.{no_parts}
use Rattle.castor_ltype.proofs.laying.no_parts.Goals as goal

pub returns-clause-sizes : goal.returns-clause-sizes
returns-clause-sizes c = no_parts c.new.result c.in_ok-no_sizes.field-0.items c.args.held.now _ c.new.ensures (sym (length-map c.args.held.now (λ h. h.now))) c.in_ok-no_sizes.ensures
