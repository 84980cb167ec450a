-- The column types of joins, concatenations, projections, groups and sorted relations, and of their operands.
use Rattle.std.proofs.Common.{◌≡◌, ◌∙◌, ℕ, List, [], ◌∷◌, ◌++◌, map, Bool, true, refl, sym, ap, Option, Some, None, option_and_then, option_map, slice_get}
use Rattle.std.specs.List.{list_all, flat_map}
use Rattle.std.proofs.lemmas.Bool.{and_from, and_parts}
use Rattle.std.proofs.lemmas.List.{append-nil}
use Rattle.castor_val.specs.declared.value.Ty.{Ty}
use Rattle.castor_val.specs.declared.value.Ty.TheVariants.{Bool as Truth}
use Rattle.castor_alg.specs.declared.context.Context.{Context}
use Rattle.castor_alg.specs.declared.expr.Expr.{Expr}
use Rattle.castor_alg.specs.declared.rel.Agg.{Agg}
use Rattle.castor_alg.specs.declared.rel.Key.{Key}
use Rattle.castor_alg.specs.declared.rel.Rel.{Rel}
use Rattle.castor_alg.specs.declared.rel.Rel as R
use Rattle.castor_alg.specs.Typing.{aggregate_type, allowed, are_columns, are_sorting_keys, common_types, cross_types, each, group_types, is_of, same_types, type_under, types_of_each, types_under, with_both, within_limits}
use Rattle.castor_laws.proofs.EachLaws.{Each, none, one, each_map, each_weaker}
use Rattle.castor_laws.proofs.TypeClauseLaws.{types_under-Concat, types_under-Group, types_under-Join, types_under-Order, types_under-Select}
use Rattle.castor_laws.proofs.TypeEqualLaws.{same_types_itself}
use Rattle.castor_laws.proofs.TypePartLaws.{allowed_parts, and_then_parts, both_parts, map_parts, same_types-equal}

limits_kept : (o : Option (List Ty)) (types : List Ty) → within_limits o ≡ Some types → (o ≡ Some types) × (are_columns types ≡ true)
limits_kept o types is =
    let some = and_then_parts (λ columns. allowed (are_columns columns) columns) o types is in
    let kept = allowed_parts (are_columns some.0) some.0 types some.2 in
    (some.1 ∙ ap Some kept.1, ap are_columns (sym kept.1) ∙ kept.0)

limits_keep : (o : Option (List Ty)) (types : List Ty) → o ≡ Some types → are_columns types ≡ true → within_limits o ≡ Some types
limits_keep o types is within = ap within_limits is ∙ ap (λ (b : Bool). allowed b types) within

module _ (context : Context) where
  -- the operands of a well-typed join, and its condition
  pub record JoinParts (e : Expr) (r s : Rel) (types : List Ty) : Type 0 where
    pub left : List Ty
    pub right : List Ty
    pub left_typed : types_under r context ≡ Some left
    pub right_typed : types_under s context ≡ Some right
    pub both : left ++ right ≡ types
    pub within : are_columns types ≡ true
    pub condition : is_of Truth (type_under e types context) ≡ true

  pub join_parts : (e : Expr) (r s : Rel) (types : List Ty) → types_under (R.Join e r s) context ≡ Some types → JoinParts e r s types
  join_parts e r s types typed =
      let part = and_then_parts (λ columns. allowed (is_of Truth (type_under e columns context)) columns) (cross_types (types_under r context ∷ types_under s context ∷ [])) types (sym (types_under-Join context e r s) ∙ typed) in
      let test = allowed_parts (is_of Truth (type_under e part.0 context)) part.0 types part.2 in
      let limits = limits_kept (option_map (λ all. flat_map (λ types. types) all) (each (types_under r context ∷ types_under s context ∷ []))) part.0 part.1 in
      let all = map_parts (λ all. flat_map (λ types. types) all) (each (types_under r context ∷ types_under s context ∷ [])) part.0 limits.0 in
      let first = both_parts (λ t ts. t ∷ ts) (types_under r context) (each (types_under s context ∷ [])) all.0 all.1 in
      let second = both_parts (λ t ts. t ∷ ts) (types_under s context) (each []) first.1 first.3 in
      let last : [] ≡ second.1 = cc in
      record {
        left = first.0;
        right = second.0;
        left_typed = first.2;
        right_typed = second.2;
        both =
            ap (λ (b : List Ty). first.0 ++ b) (sym (append-nil second.0))
            ∙ ap (λ (rest : List (List Ty)). first.0 ++ (second.0 ++ flat_map (λ types. types) rest)) last
            ∙ ap (λ (rest : List (List Ty)). first.0 ++ flat_map (λ types. types) rest) second.4
            ∙ ap (flat_map (λ types. types)) first.4 ∙ all.2 ∙ test.1;
        within = ap are_columns (sym test.1) ∙ limits.1;
        condition = ap (λ (ts : List Ty). is_of Truth (type_under e ts context)) (sym test.1) ∙ test.0;
      }

  pub join_typed : (e : Expr) (r s : Rel) (left right : List Ty) → types_under r context ≡ Some left → types_under s context ≡ Some right → are_columns (left ++ right) ≡ true → is_of Truth (type_under e (left ++ right) context) ≡ true → types_under (R.Join e r s) context ≡ Some (left ++ right)
  join_typed e r s left right first second within condition =
      types_under-Join context e r s
      ∙ ap (option_and_then (λ columns. allowed (is_of Truth (type_under e columns context)) columns))
      ((λ i. cross_types (first i ∷ second i ∷ []))
      ∙ limits_keep (Some (left ++ (right ++ []))) (left ++ right) (ap (λ (b : List Ty). Some (left ++ b)) (append-nil right)) within)
      ∙ ap (λ (b : Bool). allowed b (left ++ right)) condition

  -- a join of other operands of the same column types, by another condition
  pub join_again : (e f : Expr) (r s q t : Rel) (types : List Ty) (parts : JoinParts e r s types) → types_under q context ≡ Some parts.left → types_under t context ≡ Some parts.right → is_of Truth (type_under f types context) ≡ true → types_under (R.Join f q t) context ≡ Some types
  join_again e f r s q t types parts first second condition =
      join_typed f q t parts.left parts.right first second (ap are_columns parts.both ∙ parts.within)
      (ap (λ (ts : List Ty). is_of Truth (type_under f ts context)) parts.both ∙ condition)
      ∙ ap Some parts.both

  -- the operand of a well-typed projection
  pub select_parts : (es : List Expr) (r : Rel) (types : List Ty) → types_under (R.Select es r) context ≡ Some types → (columns : List Ty) × (types_under r context ≡ Some columns) × (types_of_each es columns context ≡ Some types) × (are_columns types ≡ true)
  select_parts es r types typed =
      let source = and_then_parts (λ columns. within_limits (types_of_each es columns context)) (types_under r context) types (sym (types_under-Select context es r) ∙ typed) in
      let limits = limits_kept (types_of_each es source.0 context) types source.2 in
      (source.0, source.1, limits.0, limits.1)

  pub select_typed : (es : List Expr) (r : Rel) (columns types : List Ty) → types_under r context ≡ Some columns → types_of_each es columns context ≡ Some types → are_columns types ≡ true → types_under (R.Select es r) context ≡ Some types
  select_typed es r columns types typed values within =
      types_under-Select context es r
      ∙ ap (option_and_then (λ columns. within_limits (types_of_each es columns context))) typed
      ∙ limits_keep (types_of_each es columns context) types values within

  -- the operand of well-typed groups, and the types of the keys and of the aggregates
  pub record GroupParts (ks : List ℕ) (aggs : List Agg) (r : Rel) (types : List Ty) : Type 0 where
    pub columns : List Ty
    pub keys : List Ty
    pub values : List Ty
    pub operand_typed : types_under r context ≡ Some columns
    pub keys_typed : each (map (λ k. slice_get columns k) ks) ≡ Some keys
    pub values_typed : each (map (aggregate_type columns) aggs) ≡ Some values
    pub both : keys ++ values ≡ types

  pub group_parts : (ks : List ℕ) (aggs : List Agg) (r : Rel) (types : List Ty) → types_under (R.Group ks aggs r) context ≡ Some types → GroupParts ks aggs r types
  group_parts ks aggs r types typed =
      let source = and_then_parts (λ columns. group_types ks aggs columns) (types_under r context) types (sym (types_under-Group context ks aggs r) ∙ typed) in
      let limits = limits_kept (with_both (λ keys values. keys ++ values) (each (map (λ k. slice_get source.0 k) ks)) (each (map (aggregate_type source.0) aggs))) types source.2 in
      let both = both_parts (λ keys values. keys ++ values) (each (map (λ k. slice_get source.0 k) ks)) (each (map (aggregate_type source.0) aggs)) types limits.0 in
      record { columns = source.0; keys = both.0; values = both.1; operand_typed = source.1; keys_typed = both.2; values_typed = both.3; both = both.4 }

  -- the operand of well-typed sorting
  pub order_parts : (ks : List Key) (r : Rel) (types : List Ty) → types_under (R.Order ks r) context ≡ Some types → (types_under r context ≡ Some types) × (are_sorting_keys ks types ≡ true)
  order_parts ks r types typed =
      let source = and_then_parts (λ columns. allowed (are_sorting_keys ks columns) columns) (types_under r context) types (sym (types_under-Order context ks r) ∙ typed) in
      let sortable = allowed_parts (are_sorting_keys ks source.0) source.0 types source.2 in
      (source.1 ∙ ap Some sortable.1, ap (are_sorting_keys ks) (sym sortable.1) ∙ sortable.0)

  pub order_typed : (ks : List Key) (r : Rel) (types : List Ty) → types_under r context ≡ Some types → are_sorting_keys ks types ≡ true → types_under (R.Order ks r) context ≡ Some types
  order_typed ks r types typed sortable =
      types_under-Order context ks r
      ∙ ap (option_and_then (λ columns. allowed (are_sorting_keys ks columns) columns)) typed
      ∙ ap (λ (b : Bool). allowed b types) sortable

  -- operands that have the same column types
  module _ (types : List Ty) where
    alike_parts : (rs : List Rel) (all : List (List Ty)) → each (map (λ (r : Rel). types_under r context) rs) ≡ Some all → list_all (λ ts. same_types types ts) all ≡ true → Each (λ r. types_under r context ≡ Some types) rs
    alike_parts [] all typed same = none
    alike_parts (r ∷ rs) all typed same =
        let parts = both_parts (λ t ts. t ∷ ts) (types_under r context) (each (map (λ (r : Rel). types_under r context) rs)) all typed in
        let alike = and_parts (same_types types parts.0) (list_all (λ ts. same_types types ts) parts.1) (ap (list_all (λ ts. same_types types ts)) parts.4 ∙ same) in
        one (parts.2 ∙ ap Some (sym (same_types-equal types parts.0 alike.0))) (alike_parts rs parts.1 parts.3 alike.1)

    alike_typed : {rs : List Rel} → Each (λ r. types_under r context ≡ Some types) rs → (all : List (List Ty)) × (each (map (λ (r : Rel). types_under r context) rs) ≡ Some all) × (list_all (λ ts. same_types types ts) all ≡ true)
    alike_typed none = ([], refl, refl)
    alike_typed (one first rest) =
        let (all, typed, same) = alike_typed rest in
        (types ∷ all, (λ i. with_both (λ t ts. t ∷ ts) (first i) (typed i)), and_from (same_types types types) (list_all (λ ts. same_types types ts) all) (same_types_itself types) same)

  pub concat_parts : (rs : List Rel) (types : List Ty) → types_under (R.Concat rs) context ≡ Some types → Each (λ r. types_under r context ≡ Some types) rs
  concat_parts rs types typed =
      let operands = and_then_parts common_types (each (map (λ (r : Rel). types_under r context) rs)) types (sym (types_under-Concat context rs) ∙ typed) in
      let first = and_then_parts (λ first. allowed (list_all (λ types. same_types first types) operands.0) first) (slice_get operands.0 0) types operands.2 in
      let same = allowed_parts (list_all (λ types. same_types first.0 types) operands.0) first.0 types first.2 in
      alike_parts types rs operands.0 operands.1 (ap (λ (us : List Ty). list_all (λ types. same_types us types) operands.0) (sym same.1) ∙ same.0)

  pub concat_typed : (r : Rel) (rs : List Rel) (types : List Ty) → Each (λ r. types_under r context ≡ Some types) (r ∷ rs) → types_under (R.Concat (r ∷ rs)) context ≡ Some types
  concat_typed r rs types (one first rest) =
      let (all, typed, same) = alike_typed types rest in
      types_under-Concat context (r ∷ rs)
      ∙ (λ i. option_and_then common_types (with_both (λ t ts. t ∷ ts) (first i) (typed i)))
      ∙ ap (λ (b : Bool). allowed b types) (and_from (same_types types types) (list_all (λ ts. same_types types ts) all) (same_types_itself types) same)

  -- what changes the operands of a concatenation alike
  pub concat_over : (change : Rel → Rel) (columns types : List Ty) → ((r : Rel) → types_under r context ≡ Some columns → types_under (change r) context ≡ Some types) → (rs : List Rel) → types_under (R.Concat rs) context ≡ Some columns → types_under (R.Concat (map change rs)) context ≡ Some types
  concat_over change columns types typed [] is = let none : types_under (R.Concat []) context ≡ None = types_under-Concat context [] in cc
  concat_over change columns types typed (r ∷ rs) is =
      concat_typed (change r) (map change rs) types
      (each_map (λ r. types_under r context ≡ Some types) change (each_weaker (λ r. types_under r context ≡ Some columns) _ typed (concat_parts (r ∷ rs) columns is)))
