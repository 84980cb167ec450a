use Rattle.castor_laws.proofs.CountedColumnLaws.{typed_columns_counted}
use Rattle.castor_laws.proofs.fitting.columns_are_counted.Goals as goal

pub returns : goal.returns
returns c = typed_columns_counted
