use Rattle.std.proofs.Common.{◌∙◌, ap, sym, inr, Ok, Vec, Global}
use Rattle.std.specs.Option.{ok_or}
use Rattle.castor_val.specs.declared.value.Ty.{Ty}
use Rattle.castor_alg.specs.declared.typing.TypeError.TheVariants.{Ill}
use Rattle.castor_alg.specs.Typing.{allowed}
use Rattle.castor_alg.proofs.TypingAnswers.{common_types-first}
use Rattle.castor_image.proofs.typing.lists.common_types.Goals as goal

pub returns-in_ok-from_slice-in-Some : goal.returns-in_ok-from_slice-in-Some
returns-in_ok-from_slice-in-Some c =
    ap (λ types. ok_or types Ill) (
    common_types-first (λ (types : Vec Ty Global). types.items) c.args.operands.now c.in-Some.first.now c.as_slice.result.now c.have_all_types.result c.in-Some.ensures.value c.as_slice.ensures.value c.have_all_types.ensures
    ∙ ap (λ all. allowed all c.in-Some.first.now.items) c.if-have_all_types.true)
    ∙ ap Ok (sym (c.in_ok-from_slice-in-Some.ensures.items ∙ c.as_slice-then-have_all_types.ensures.value))

pub returns-else-have_all_types : goal.returns-else-have_all_types
returns-else-have_all_types c =
    inr (ap (λ types. ok_or types Ill) (
    common_types-first (λ (types : Vec Ty Global). types.items) c.args.operands.now c.in-Some.first.now c.as_slice.result.now c.have_all_types.result c.in-Some.ensures.value c.as_slice.ensures.value c.have_all_types.ensures
    ∙ ap (λ all. allowed all c.in-Some.first.now.items) c.if-have_all_types.false))
