use Rattle.castor_laws.proofs.ValueFitLaws.{values_fit_types}
use Rattle.castor_laws.proofs.fitting.typed_expr_gives_fitting_value.Goals as goal

pub returns : goal.returns
returns c = values_fit_types
