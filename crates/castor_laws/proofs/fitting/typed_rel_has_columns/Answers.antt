use Rattle.castor_laws.proofs.ColumnCountLaws.{typed_has_columns}
use Rattle.castor_laws.proofs.fitting.typed_rel_has_columns.Goals as goal

pub returns : goal.returns
returns c = typed_has_columns
