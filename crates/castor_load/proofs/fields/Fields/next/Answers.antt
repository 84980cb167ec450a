use Rattle.std.proofs.Common.{◌∙◌, ap}
use Rattle.std.proofs.lemmas.List.{take_rest}
use Rattle.castor_load.specs.Plain.{fields_of_rest}
use Rattle.castor_load.proofs.FirstField.{field_before, field_whole}
use Rattle.castor_load.proofs.fields.Fields.next.Goals as goal

pub returns-in-Some : goal.returns-in-Some
returns-in-Some c = rw take_rest (ap fields_of_rest c.in_ok-rest.was ∙ field_before c.in_ok-rest.rest.now c.in-Some.at c.in-Some.ensures)

pub returns-in-None : goal.returns-in-None
returns-in-None c = ap fields_of_rest c.in_ok-rest.was ∙ field_whole c.in_ok-rest.rest.now c.in-None.ensures
