-- A well-typed relation has 1 to 64 columns, so that the context in the body of a binder is within limits.
use Rattle.std.proofs.Common.{◌≡◌, ◌∙◌, ℕ, zero, suc, List, [], ◌∷◌, ◌++◌, map, true, ◌&&◌, refl, sym, ap, subst, Option, Some, None, slice_get, option_map, if◌then◌else◌}
use Rattle.std.specs.List.{list_all, flat_map}
use Rattle.std.proofs.lemmas.Bool.{and_from, and_parts}
use Rattle.std.proofs.lemmas.List.Folds.{list_all-append}
use Rattle.castor_val.specs.declared.value.Ty.{Ty}
use Rattle.castor_val.specs.declared.value.Ty.TheVariants.{Bool as Truth}
use Rattle.castor_alg.specs.declared.context.Context.{Context}
use Rattle.castor_alg.specs.declared.rel.Agg.{Agg}
use Rattle.castor_alg.specs.declared.rel.Rel.{Rel}
use Rattle.castor_alg.specs.Typing.{aggregate_type, allowed, are_columns, are_hash_keys, are_sorting_keys, column_types, common_types, cross_types, each, extended, group_types, is_context, is_of, is_range, same_types, type_under, types_of_each, types_under, with_both, within_limits}
use Rattle.castor_alg.proofs.RelInduction.{With, relations, rel_induction}
use Rattle.castor_laws.proofs.TypeClauseLaws.{types_under-Table, types_under-Scalar, types_under-Cross, types_under-Concat, types_under-Select, types_under-Filter, types_under-Join, types_under-DepJoin, types_under-Group, types_under-Order, types_under-Dedup, types_under-List, types_under-Hash, types_under-Ord}
use Rattle.castor_laws.proofs.TypePartLaws.{allowed_parts, and_then_parts, both_parts, if_parts, map_parts}

limited_columns : (o : Option (List Ty)) (types : List Ty) → within_limits o ≡ Some types → are_columns types ≡ true
limited_columns None types is = cc
limited_columns (Some columns) types is =
    let parts = allowed_parts (are_columns columns) columns types is in
    subst (λ ts. are_columns ts ≡ true) parts.1 parts.0

cross_columns : (operands : List (Option (List Ty))) (types : List Ty) → cross_types operands ≡ Some types → are_columns types ≡ true
cross_columns operands types is = limited_columns (option_map (λ all. flat_map (λ types. types) all) (each operands)) types is

group_columns : (ks : List ℕ) (aggs : List Agg) (columns types : List Ty) → group_types ks aggs columns ≡ Some types → are_columns types ≡ true
group_columns ks aggs columns types is = limited_columns (with_both (λ keys values. keys ++ values) (each (map (λ k. slice_get columns k) ks)) (each (map (aggregate_type columns) aggs))) types is

at_number : (all : List (List Ty)) (n : ℕ) (types : List Ty) → list_all are_columns all ≡ true → slice_get all n ≡ Some types → are_columns types ≡ true
at_number [] n types within is = cc
at_number (ts ∷ all) zero types within is = let same : ts ≡ types = cc in subst (λ us. are_columns us ≡ true) same (and_parts (are_columns ts) (list_all are_columns all) within).0
at_number (ts ∷ all) (suc n) types within is = at_number all n types (and_parts (are_columns ts) (list_all are_columns all) within).1 is

pub extended-is_context : (context : Context) (k : ℕ) (types : List Ty) → is_context context ≡ true → are_columns types ≡ true → is_context (extended context k types) ≡ true
extended-is_context context k types within columns =
    let parts = and_parts (list_all are_columns context.tables) (list_all (λ entry. are_columns entry.1) context.scopes) within in
    let last = and_from (are_columns types) true columns refl in
    and_from (list_all are_columns context.tables) (list_all (λ entry. are_columns entry.1) (context.scopes ++ (k, types) ∷ [])) parts.0
    (list_all-append (λ (entry : ℕ × List Ty). are_columns entry.1) context.scopes ((k, types) ∷ [])
    ∙ and_from (list_all (λ entry. are_columns entry.1) context.scopes) (are_columns types && true) parts.1 last)

abbrev HasColumnsUnder : Rel → Type 0
HasColumnsUnder q = (context : Context) (types : List Ty) → is_context context ≡ true → types_under q context ≡ Some types → are_columns types ≡ true

first_has_columns : (rs : List (With HasColumnsUnder)) (context : Context) (all : List (List Ty)) (types : List Ty) → is_context context ≡ true → each (map (λ (r : Rel). types_under r context) (relations rs)) ≡ Some all → slice_get all 0 ≡ Some types → are_columns types ≡ true
first_has_columns [] context [] types within typed is = cc
first_has_columns [] context (ts ∷ all) types within typed is = cc
first_has_columns (r ∷ rs) context all types within typed is =
    let parts = both_parts (λ t ts. t ∷ ts) (types_under r.0 context) (each (map (λ (r : Rel). types_under r context) (relations rs))) all typed in
    let first : Some parts.0 ≡ Some types = ap (λ (list : List (List Ty)). slice_get list 0) parts.4 ∙ is in
    r.1 context types within (parts.2 ∙ first)

pub has_columns : (q : Rel) → HasColumnsUnder q
has_columns = rel_induction HasColumnsUnder record {
  table = λ n context types within typed. at_number context.tables n types (and_parts (list_all are_columns context.tables) (list_all (λ entry. are_columns entry.1) context.scopes) within).0 (sym (types_under-Table context n) ∙ typed);
  scalar = λ e context types within typed.
      let part = map_parts (λ t. t ∷ []) (type_under e [] context) types (sym (types_under-Scalar context e) ∙ typed) in
      subst (λ ts. are_columns ts ≡ true) part.2 refl;
  cross = λ rs context types within typed. cross_columns (map (λ (r : Rel). types_under r context) (relations rs)) types (sym (types_under-Cross context (relations rs)) ∙ typed);
  concat = λ rs context types within typed.
      let operands = each (map (λ (r : Rel). types_under r context) (relations rs)) in
      let part = and_then_parts common_types operands types (sym (types_under-Concat context (relations rs)) ∙ typed) in
      let first = and_then_parts (λ first. allowed (list_all (λ types. same_types first types) part.0) first) (slice_get part.0 0) types part.2 in
      let same = (allowed_parts (list_all (λ types. same_types first.0 types) part.0) first.0 types first.2).1 in
      first_has_columns rs context part.0 types within part.1 (first.1 ∙ ap Some same);
  select = λ es r x context types within typed.
      let part = and_then_parts (λ columns. within_limits (types_of_each es columns context)) (types_under r context) types (sym (types_under-Select context es r) ∙ typed) in
      limited_columns (types_of_each es part.0 context) types part.2;
  filter = λ e r x context types within typed.
      let part = and_then_parts (λ columns. allowed (is_of Truth (type_under e columns context)) columns) (types_under r context) types (sym (types_under-Filter context e r) ∙ typed) in
      x context types within (part.1 ∙ ap Some (allowed_parts (is_of Truth (type_under e part.0 context)) part.0 types part.2).1);
  join = λ e r s x y context types within typed.
      let operands = types_under r context ∷ types_under s context ∷ [] in
      let part = and_then_parts (λ columns. allowed (is_of Truth (type_under e columns context)) columns) (cross_types operands) types (sym (types_under-Join context e r s) ∙ typed) in
      cross_columns operands types (part.1 ∙ ap Some (allowed_parts (is_of Truth (type_under e part.0 context)) part.0 types part.2).1);
  depjoin = λ k r s x y context types within typed.
      let part = and_then_parts (λ columns. types_under s (extended context k columns)) (types_under r context) types (sym (types_under-DepJoin context k r s) ∙ typed) in
      y (extended context k part.0) types (extended-is_context context k part.0 within (x context part.0 within part.1)) part.2;
  group = λ ks aggs r x context types within typed.
      let part = and_then_parts (λ columns. group_types ks aggs columns) (types_under r context) types (sym (types_under-Group context ks aggs r) ∙ typed) in
      group_columns ks aggs part.0 types part.2;
  order = λ ks r x context types within typed.
      let part = and_then_parts (λ columns. allowed (are_sorting_keys ks columns) columns) (types_under r context) types (sym (types_under-Order context ks r) ∙ typed) in
      x context types within (part.1 ∙ ap Some (allowed_parts (are_sorting_keys ks part.0) part.0 types part.2).1);
  dedup = λ r x context types within typed. x context types within (sym (types_under-Dedup context r) ∙ typed);
  list = λ k r s x y context types within typed.
      let part = and_then_parts (λ columns. types_under s (extended context k columns)) (types_under r context) types (sym (types_under-List context k r s) ∙ typed) in
      y (extended context k part.0) types (extended-is_context context k part.0 within (x context part.0 within part.1)) part.2;
  hash = λ k r s es x y context types within typed.
      let part = and_then_parts (λ columns. if are_hash_keys columns (types_of_each es [] context) then types_under s (extended context k columns) else None) (types_under r context) types (sym (types_under-Hash context k r s es) ∙ typed) in
      let body = if_parts (are_hash_keys part.0 (types_of_each es [] context)) (types_under s (extended context k part.0)) types part.2 in
      y (extended context k part.0) types (extended-is_context context k part.0 within (x context part.0 within part.1)) body.1;
  ordered = λ k r s lo hi x y context types within typed.
      let part = and_then_parts (λ columns. if is_range columns lo hi context then types_under s (extended context k columns) else None) (types_under r context) types (sym (types_under-Ord context k r s lo hi) ∙ typed) in
      let body = if_parts (is_range part.0 lo hi context) (types_under s (extended context k part.0)) types part.2 in
      y (extended context k part.0) types (extended-is_context context k part.0 within (x context part.0 within part.1)) body.1;
}

pub typed_has_columns : (q : Rel) (context : Context) (types : List Ty) → column_types q context ≡ Some types → are_columns types ≡ true
typed_has_columns q context types typed =
    let parts = if_parts (is_context context) (types_under q context) types typed in
    has_columns q context types parts.0 parts.1
