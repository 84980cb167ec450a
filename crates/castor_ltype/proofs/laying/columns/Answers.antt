use Rattle.std.proofs.Common.{◌≡◌, ◌∙◌, ◌⊎◌, List, [], Option, Err, subst}
use Rattle.std.specs.Option.{ok_or}
use Rattle.castor_val.specs.declared.value.Ty.{Ty}
use Rattle.castor_alg.specs.declared.typing.TypeError.{TypeError}
use Rattle.castor_alg.specs.declared.typing.TypeError.TheVariants.{Ill, Memory}
use Rattle.castor_code.specs.LayoutMeaning.{all_in}
use Rattle.castor_ltype.proofs.LayingLaws.{no_types_found, types_found}
use Rattle.castor_ltype.proofs.laying.columns.Goals as goal

none : (o : Option (List Ty)) (why : TypeError) → why ≡ Ill → (why ≡ Memory) ⊎ (ok_or o Ill ≡ Err why) → [] ≡ all_in o
none o why is found = no_types_found o (subst (λ (w : TypeError). (w ≡ Memory) ⊎ (ok_or o Ill ≡ Err w)) is found)

pub returns-in-Ok : goal.returns-in-Ok
returns-in-Ok c = types_found _ _ c.in-Ok.ensures

pub returns-in-Err-Ill : goal.returns-in-Err-Ill
returns-in-Err-Ill c = c.new.ensures.items ∙ none _ _ c.in-Err-Ill.field-0-is c.in-Err-Ill.ensures
