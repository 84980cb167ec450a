-- What code that types relations has shown of its parts.
use Rattle.std.proofs.Common.{◌≡◌, ◌∙◌, ℕ, ◌<◌, refl, sym, ap, inl, inr, ◌⊎◌, List, [], ◌∷◌, length, get_or, map, Option, Some, None, Ok, Err, option_and_then, option_map, slice_get, Bool}
use Rattle.std.specs.List.{flat_map, list_all}
use Rattle.std.proofs.lemmas.List.Folds.{list_all-map}
use Rattle.castor_alg.proofs.TypingLaws.{each-none}
use Rattle.std.specs.Option.{ok_or}
use Rattle.castor_val.specs.declared.value.Ty.{Ty}
use Rattle.castor_alg.specs.declared.context.Context.{Context}
use Rattle.castor_alg.specs.declared.rel.Agg.{Agg}
use Rattle.castor_alg.specs.declared.rel.Rel.{Rel}
use Rattle.castor_alg.specs.declared.rel.Rel as R
use Rattle.castor_alg.specs.declared.typing.TypeError.{TypeError}
use Rattle.castor_alg.specs.declared.typing.TypeError.TheVariants.{Ill, Memory}
use Rattle.castor_alg.specs.Typing.{RelTyping, allowed, column_types_step, common_types, cross_types, each, group_types, same_types, types_under, within_limits}
use Rattle.castor_alg.proofs.RelInduction.{fold-Cross, fold-Concat, fold-Group}

-- the answer was Ok, so there is a value
pub some-from_ok : {X : Type 0} (o : Option X) (x : X) → ok_or o Ill ≡ Ok x → o ≡ Some x
some-from_ok None x is = cc
some-from_ok (Some y) x is = cc

-- a refusal of a part is one of the whole
pub refused_by_part : {X Z : Type 0} (o : Option X) (g : X → Option Z) (due : Option Z) (why : TypeError) → due ≡ option_and_then g o → (why ≡ Memory) ⊎ (ok_or o Ill ≡ Err why) → (why ≡ Memory) ⊎ (ok_or due Ill ≡ Err why)
refused_by_part o g due why is (inl memory) = inl memory
refused_by_part {X} {Z} None g due why is (inr refused) =
    let ill : Ill ≡ why = cc in
    inr (ap (λ (d : Option Z). ok_or d Ill) is ∙ ap Err ill)
refused_by_part (Some x) g due why is (inr refused) = cc

abbrev typed_under : Context → Rel → Option (List Ty)
typed_under context q = types_under q context

operands_typed : (context : Context) (rs : List Rel) → map (λ (r : RelTyping). r context) (map types_under rs) ≡ map (typed_under context) rs
operands_typed context [] = refl
operands_typed context (r ∷ rs) = ap (λ os. types_under r context ∷ os) (operands_typed context rs)

pub types_under-Cross : (q : Rel) (context : Context) (rs slice : List Rel) → q ≡ R.Cross rs → slice ≡ rs → types_under q context ≡ option_and_then (λ all. within_limits (Some (flat_map (λ types. types) all))) (each (map (λ r. types_under r context) slice))
types_under-Cross q context rs slice is same =
    ap (typed_under context) is
    ∙ ap (λ (m : RelTyping). m context) (fold-Cross RelTyping column_types_step rs)
    ∙ ap cross_types (operands_typed context rs ∙ ap (map (typed_under context)) (sym same))
    ∙ limited (each (map (typed_under context) slice))
  where
    limited : (o : Option (List (List Ty))) → within_limits (option_map (λ all. flat_map (λ types. types) all) o) ≡ option_and_then (λ all. within_limits (Some (flat_map (λ types. types) all))) o
    limited None = refl
    limited (Some all) = refl

pub types_under-Concat : (q : Rel) (context : Context) (rs slice : List Rel) → q ≡ R.Concat rs → slice ≡ rs → types_under q context ≡ option_and_then common_types (each (map (λ r. types_under r context) slice))
types_under-Concat q context rs slice is same =
    ap (typed_under context) is
    ∙ ap (λ (m : RelTyping). m context) (fold-Concat RelTyping column_types_step rs)
    ∙ ap (λ os. option_and_then common_types (each os)) (operands_typed context rs ∙ ap (map (typed_under context)) (sym same))

pub types_under-Group : (q : Rel) (context : Context) (ks keys : List ℕ) (aggs values : List Agg) (r source : Rel) (columns slice : List Ty) → q ≡ R.Group ks aggs r → source ≡ r → keys ≡ ks → values ≡ aggs → slice ≡ columns → ok_or (types_under source context) Ill ≡ Ok columns → types_under q context ≡ group_types keys values slice
types_under-Group q context ks keys aggs values r source columns slice is same_r same_ks same_aggs same_columns typed =
    ap (typed_under context) is
    ∙ ap (λ (m : RelTyping). m context) (fold-Group RelTyping column_types_step ks aggs r)
    ∙ ap (option_and_then (λ columns. group_types ks aggs columns)) (ap (typed_under context) (sym same_r) ∙ some-from_ok (types_under source context) columns typed)
    ∙ ap (λ ks. group_types ks aggs columns) (sym same_ks)
    ∙ ap (λ aggs. group_types keys aggs columns) (sym same_aggs)
    ∙ ap (group_types keys values) (sym same_columns)

-- a refusal of one of the parts
pub each_refused : {X Y : Type 0} (f : X → Option Y) (xs : List X) (i : ℕ) (x : X) (why : TypeError) → i < length xs → x ≡ get_or xs i x → (why ≡ Memory) ⊎ (ok_or (f x) Ill ≡ Err why) → (why ≡ Memory) ⊎ (ok_or (each (map f xs)) Ill ≡ Err why)
each_refused {X} {Y} f xs i x why within is refused = by_part (f x) refl refused
  where
    by_part : (o : Option Y) → f x ≡ o → (why ≡ Memory) ⊎ (ok_or o Ill ≡ Err why) → (why ≡ Memory) ⊎ (ok_or (each (map f xs)) Ill ≡ Err why)
    by_part o part (inl memory) = inl memory
    by_part None part (inr refused) =
        let ill : Ill ≡ why = cc in
        inr (ap (λ (ys : Option (List Y)). ok_or ys Ill) (each-none f xs i x x within is part) ∙ ap Err ill)
    by_part (Some y) part (inr refused) = cc

-- the common types of operands, after a test of all against the first
pub common_types-first : {V : Type 0} (view : V → List Ty) (operands : List V) (first : V) (slice : List Ty) (all : Bool) → Some first ≡ slice_get operands 0 → slice ≡ view first → all ≡ list_all (λ other. same_types slice (view other)) operands → common_types (map view operands) ≡ allowed all (view first)
common_types-first view [] first slice all is same tested = cc
common_types-first {V} view (v ∷ vs) first slice all is same tested =
    let here : v ≡ first = cc in
    let test = list_all-map (λ types. same_types (view first) types) view (v ∷ vs) ∙ ap (λ (s : List Ty). list_all (λ other. same_types s (view other)) (v ∷ vs)) (sym same) ∙ sym tested in
    ap (λ (w : V). allowed (list_all (λ types. same_types (view w) types) (map view (v ∷ vs))) (view w)) here
    ∙ ap (λ (b : Bool). allowed b (view first)) test
