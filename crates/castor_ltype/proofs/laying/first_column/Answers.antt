use Rattle.std.proofs.Common.{◌∙◌, ap, map, option_map}
use Rattle.castor_val.specs.Values.{value_of}
use Rattle.castor_ltype.proofs.LayingLaws.{first_sizes}
use Rattle.castor_ltype.proofs.laying.first_column.Goals as goal

pub returns-clause-sizes : goal.returns-clause-sizes
returns-clause-sizes c =
    first_sizes _ c.as_slice.result.now c.in_ok-scalar.field-0 (ap (map (option_map value_of)) c.as_slice.ensures.value ∙ c.in_ok-values.ensures) c.in_ok-scalar.ensures.sizes
