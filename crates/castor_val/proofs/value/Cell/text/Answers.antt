use Rattle.castor_val.specs.Values.{value_of}
use Rattle.castor_val.proofs.FieldLaws.{field_value-value_text}
use Rattle.castor_val.proofs.value.Cell.text.Goals as goal

pub returns-in-Int-clause-law : goal.returns-in-Int-clause-law
returns-in-Int-clause-law c = field_value-value_text (value_of c.args.self)
