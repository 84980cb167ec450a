use Rattle.std.proofs.Common.{◌∙◌, refl, ap, sym, subst, map, [], Some, List, Option, Result, Vec, Global, option_and_then}
use Rattle.std.specs.List.{flat_map}
use Rattle.std.specs.Option.{ok_or}
use Rattle.std.proofs.lemmas.List.{map-append}
use Rattle.castor_val.specs.Gives.{Gives}
use Rattle.castor_val.specs.declared.value.Ty.{Ty}
use Rattle.castor_code.specs.declared.code.Code.{Code}
use Rattle.castor_alg.specs.declared.typing.TypeError.{TypeError}
use Rattle.castor_alg.specs.declared.typing.TypeError.TheVariants.{Ill, Memory}
use Rattle.castor_alg.specs.TypeEnvs.{context_of}
use Rattle.castor_alg.specs.Typing.{common_types, types_of_each, within_limits}
use Rattle.castor_image.specs.Types.{looked_up, types_under}
use Rattle.castor_alg.proofs.TypingLaws.{each-more}
use Rattle.castor_alg.proofs.TypingAnswers.{each_refused, refused_by_part, some-from_ok}
use Rattle.castor_image.proofs.TypeLaws.{types_under-Cross, types_under-Concat, types_under-Group, types_under-Hash}
use Rattle.castor_image.proofs.typing.+types_in.Goals as goal

abbrev Answered : Result (Vec Ty Global) TypeError → Option (List Ty) → Type 0
Answered r due = Gives (λ types. types.items) Memory (ok_or due Ill) r

abbrev appended : List (List Ty) → Option (List Ty)
appended all = within_limits (Some (flat_map (λ types. types) all))

pub types_in-returns-in-Ok : goal.types_in-returns-in-Ok
types_in-returns-in-Ok t c =
    let due = types_under-Cross c.args.code.now (context_of c.args.env.now) c.in-Cross.kids c.as_slice.result.now c.in-Cross.is c.as_slice.ensures in
    let typed = some-from_ok _ _ c.in-Ok.ensures ∙ ap (λ (operands : List (Vec Ty Global)). Some (map (λ (types : Vec Ty Global). types.items) operands)) (sym c.as_slice-in-Ok.ensures.value) in
    subst (Answered c.cross_types.result) (sym (due ∙ ap (option_and_then appended) typed)) c.cross_types.ensures

pub types_in-returns-in-Cross : goal.types_in-returns-in-Cross
types_in-returns-in-Cross t c =
    refused_by_part _ appended _ c.in-Err.why (types_under-Cross c.args.code.now (context_of c.args.env.now) c.in-Cross.kids c.as_slice.result.now c.in-Cross.is c.as_slice.ensures) c.in-Err.ensures

pub types_in-returns-in-Ok-types_of_all : goal.types_in-returns-in-Ok-types_of_all
types_in-returns-in-Ok-types_of_all t c =
    let due = types_under-Concat c.args.code.now (context_of c.args.env.now) c.in-Concat.kids c.as_slice-in-Concat.result.now c.in-Concat.is c.as_slice-in-Concat.ensures in
    let typed = some-from_ok _ _ c.in-Ok-types_of_all.ensures ∙ ap (λ (operands : List (Vec Ty Global)). Some (map (λ (types : Vec Ty Global). types.items) operands)) (sym c.as_slice-in-Ok-types_of_all.ensures.value) in
    subst (Answered c.common_types.result) (sym (due ∙ ap (option_and_then common_types) typed)) c.common_types.ensures

pub types_in-returns-in-Concat : goal.types_in-returns-in-Concat
types_in-returns-in-Concat t c =
    refused_by_part _ common_types _ c.in-Err-types_of_all.why (types_under-Concat c.args.code.now (context_of c.args.env.now) c.in-Concat.kids c.as_slice-in-Concat.result.now c.in-Concat.is c.as_slice-in-Concat.ensures) c.in-Err-types_of_all.ensures

pub types_in-returns-in-Ok-key_columns : goal.types_in-returns-in-Ok-key_columns
types_in-returns-in-Ok-key_columns t c =
    let context = context_of c.args.env.now in
    let due = types_under-Hash c.args.code.now context c.in-Hash.count c.in-Hash.body c.in-Hash.key c.as_slice-in-Hash.result.now c.in-Hash.kid c.get-in-Ok-key_columns.result.now c.in-Hash.by c.as_slice-in-Ok-key_columns.result.now c.in-Hash.is c.as_slice-in-Hash.ensures c.get-in-Ok-key_columns.ensures c.as_slice-in-Ok-key_columns.ensures in
    let typed = some-from_ok _ _ c.in-Ok-key_columns.ensures in
    subst (Answered c.kid_types.result) (sym (due ∙ ap (option_and_then (λ columns. looked_up columns (types_of_each c.as_slice-in-Ok-key_columns.result.now [] context) (types_under c.get-in-Ok-key_columns.result.now context))) typed)) c.kid_types.ensures

pub types_in-returns-in-Hash : goal.types_in-returns-in-Hash
types_in-returns-in-Hash t c =
    let context = context_of c.args.env.now in
    let due = types_under-Hash c.args.code.now context c.in-Hash.count c.in-Hash.body c.in-Hash.key c.as_slice-in-Hash.result.now c.in-Hash.kid c.in-Hash.kid c.in-Hash.by c.in-Hash.by c.in-Hash.is c.as_slice-in-Hash.ensures refl refl in
    refused_by_part _ (λ columns. looked_up columns (types_of_each c.in-Hash.by [] context) (types_under c.in-Hash.kid context)) _ c.in-Err-key_columns.why due c.in-Err-key_columns.ensures

pub types_in-returns-in-Group : goal.types_in-returns-in-Group
types_in-returns-in-Group t c =
    subst (Answered c.group_types.result) (sym (types_under-Group c.args.code.now (context_of c.args.env.now) _ _ _ _ _ _ _ _ c.in-Group.is c.get-in-Group.ensures c.as_slice-in-Group.ensures c.as_slice-in-Group-2.ensures c.as_slice-in-Group-3.ensures.value c.in_ok-columns-in-Group.ensures)) c.group_types.ensures

pub types_of_all-returns-in-Err : goal.types_of_all-returns-in-Err
types_of_all-returns-in-Err t c =
    each_refused (λ (code : Code). types_under code (context_of c.args.env.now)) c.args.codes.now c.loop-code.code-index c.code-item.result c.in-Err.why c.loop-code-test.true c.code-item.is c.in-Err.ensures

pub types_of_all-loop-code-preserved : goal.types_of_all-loop-code-preserved
types_of_all-loop-code-preserved t c =
    each-more (λ (code : Code). types_under code (context_of c.args.env.now)) c.args.codes.now c.loop-code.code-index c.code-item.result c.code-item.result _ c.in-Ok.types.items c.loop-code-test.true c.code-item.is c.loop-code.invariant (some-from_ok _ _ c.in-Ok.ensures)
    ∙ ap Some (sym (ap (map (λ (types : Vec Ty Global). types.items)) c.in_ok-push-in-Ok.ensures.items ∙ map-append _ c.loop-code.all.items _))

pub key_columns-returns-in-Ok : goal.key_columns-returns-in-Ok
key_columns-returns-in-Ok t c =
    let typed = some-from_ok _ _ c.in-Ok.ensures ∙ ap (λ (operands : List (Vec Ty Global)). Some (map (λ (types : Vec Ty Global). types.items) operands)) (sym c.as_slice.ensures.value) in
    subst (Answered c.cross_types.result) (sym (ap (option_and_then appended) typed)) c.cross_types.ensures

pub key_columns-returns-in-Err : goal.key_columns-returns-in-Err
key_columns-returns-in-Err t c = refused_by_part _ appended _ c.in-Err.why refl c.in-Err.ensures
