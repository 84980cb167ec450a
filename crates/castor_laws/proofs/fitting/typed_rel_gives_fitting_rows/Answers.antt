use Rattle.castor_laws.proofs.RowFitLaws.{tables_fit_types}
use Rattle.castor_laws.proofs.fitting.typed_rel_gives_fitting_rows.Goals as goal

pub returns : goal.returns
returns c = tables_fit_types
