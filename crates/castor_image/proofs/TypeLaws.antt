-- The column types of codes, node by node.
use Rattle.std.proofs.Common.{◌≡◌, ◌∙◌, ℕ, refl, sym, ap, List, [], ◌∷◌, map, Option, Some, None, Ok, if◌then◌else◌, option_and_then, option_map}
use Rattle.std.specs.List.{flat_map}
use Rattle.std.specs.Option.{ok_or}
use Rattle.castor_val.specs.declared.value.Ty.{Ty}
use Rattle.castor_alg.specs.declared.context.Context.{Context}
use Rattle.castor_alg.specs.declared.rel.Agg.{Agg}
use Rattle.castor_alg.specs.declared.expr.Expr.{Expr}
use Rattle.castor_alg.specs.declared.typing.TypeError.TheVariants.{Ill}
use Rattle.castor_code.specs.declared.code.Range.{Range}
use Rattle.castor_alg.specs.Typing.{RelTyping, common_types, cross_types, each, are_hash_keys, group_types, types_of_each, within_limits}
use Rattle.castor_alg.proofs.TypingAnswers.{some-from_ok}
use Rattle.castor_code.specs.declared.code.Code.{Code}
use Rattle.castor_code.specs.declared.code.Code as C
use Rattle.castor_code.specs.CodeTyping.{code_types_step}
use Rattle.castor_code.proofs.CodeInduction.{fold-Cross, fold-Concat, fold-Group, fold-Hash}
use Rattle.castor_image.specs.Types.{key_types, looked_up, types_under}

abbrev typed_under : Context → Code → Option (List Ty)
typed_under context c = types_under c context

kids_typed : (context : Context) (cs : List Code) → map (λ (k : RelTyping). k context) (map types_under cs) ≡ map (typed_under context) cs
kids_typed context [] = refl
kids_typed context (c ∷ cs) = ap (λ os. types_under c context ∷ os) (kids_typed context cs)

limited : (o : Option (List (List Ty))) → within_limits (option_map (λ all. flat_map (λ types. types) all) o) ≡ option_and_then (λ all. within_limits (Some (flat_map (λ types. types) all))) o
limited None = refl
limited (Some all) = refl

-- the column types of all kids appended
pub cross_of_kids : (context : Context) (cs : List Code) → cross_types (map (λ (k : RelTyping). k context) (map types_under cs)) ≡ option_and_then (λ all. within_limits (Some (flat_map (λ types. types) all))) (each (map (λ c. types_under c context) cs))
cross_of_kids context cs = ap cross_types (kids_typed context cs) ∙ limited (each (map (typed_under context) cs))

pub types_under-Cross : (c : Code) (context : Context) (cs slice : List Code) → c ≡ C.Cross cs → slice ≡ cs → types_under c context ≡ option_and_then (λ all. within_limits (Some (flat_map (λ types. types) all))) (each (map (λ c. types_under c context) slice))
types_under-Cross c context cs slice is same =
    ap (typed_under context) is
    ∙ ap (λ (m : RelTyping). m context) (fold-Cross RelTyping code_types_step cs)
    ∙ cross_of_kids context cs
    ∙ ap (λ (ks : List Code). option_and_then (λ all. within_limits (Some (flat_map (λ types. types) all))) (each (map (typed_under context) ks))) (sym same)

pub types_under-Concat : (c : Code) (context : Context) (cs slice : List Code) → c ≡ C.Concat cs → slice ≡ cs → types_under c context ≡ option_and_then common_types (each (map (λ c. types_under c context) slice))
types_under-Concat c context cs slice is same =
    ap (typed_under context) is
    ∙ ap (λ (m : RelTyping). m context) (fold-Concat RelTyping code_types_step cs)
    ∙ ap (λ os. option_and_then common_types (each os)) (kids_typed context cs ∙ ap (map (typed_under context)) (sym same))

pub types_under-Group : (c : Code) (context : Context) (ks keys : List ℕ) (aggs values : List Agg) (d kid : Code) (columns slice : List Ty) → c ≡ C.Group ks aggs d → kid ≡ d → keys ≡ ks → values ≡ aggs → slice ≡ columns → ok_or (types_under kid context) Ill ≡ Ok columns → types_under c context ≡ group_types keys values slice
types_under-Group c context ks keys aggs values d kid columns slice is same_d same_ks same_aggs same_columns typed =
    ap (typed_under context) is
    ∙ ap (λ (m : RelTyping). m context) (fold-Group RelTyping code_types_step ks aggs d)
    ∙ ap (option_and_then (λ columns. group_types ks aggs columns)) (ap (typed_under context) (sym same_d) ∙ some-from_ok (types_under kid context) columns typed)
    ∙ ap (λ ks. group_types ks aggs columns) (sym same_ks)
    ∙ ap (λ aggs. group_types keys aggs columns) (sym same_aggs)
    ∙ ap (group_types keys values) (sym same_columns)

looks_up : (columns : List Ty) (keys kid : Option (List Ty)) → (if are_hash_keys columns keys then kid else None) ≡ looked_up columns keys kid
looks_up columns None kid = refl
looks_up columns (Some keys) kid = refl

pub types_under-Hash : (c : Code) (context : Context) (count body : Range) (ks slice : List Code) (d kid : Code) (es by : List Expr) → c ≡ C.Hash count body ks d es → slice ≡ ks → kid ≡ d → by ≡ es
    → types_under c context ≡ option_and_then (λ columns. looked_up columns (types_of_each by [] context) (types_under kid context)) (key_types (each (map (λ c. types_under c context) slice)))
types_under-Hash c context count body ks slice d kid es by is same same_d same_es =
    ap (typed_under context) is
    ∙ ap (λ (m : RelTyping). m context) (fold-Hash RelTyping code_types_step count body ks d es)
    ∙ ap (option_and_then (λ columns. if are_hash_keys columns (types_of_each es [] context) then types_under d context else None)) (cross_of_kids context ks)
    ∙ ap (λ (xs : List Code). option_and_then (λ columns. if are_hash_keys columns (types_of_each es [] context) then types_under d context else None) (key_types (each (map (λ c. types_under c context) xs)))) (sym same)
    ∙ ap (λ (x : Code). option_and_then (λ columns. if are_hash_keys columns (types_of_each es [] context) then types_under x context else None) (key_types (each (map (λ c. types_under c context) slice)))) (sym same_d)
    ∙ ap (λ (xs : List Expr). option_and_then (λ columns. if are_hash_keys columns (types_of_each xs [] context) then types_under kid context else None) (key_types (each (map (λ c. types_under c context) slice)))) (sym same_es)
    ∙ (λ i. option_and_then (λ columns. looks_up columns (types_of_each by [] context) (types_under kid context) i) (key_types (each (map (λ c. types_under c context) slice))))
