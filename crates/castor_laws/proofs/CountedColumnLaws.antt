-- A well-typed relation has as many columns as column types.
use Rattle.std.proofs.Common.{◌≡◌, ◌∙◌, ℕ, zero, suc, ◌+◌, List, [], ◌∷◌, ◌++◌, length, map, sum, refl, sym, ap, Option, Some, None, slice_get, if◌then◌else◌}
use Rattle.std.specs.Prelude.{slice_index_or}
use Rattle.std.specs.List.{list_all, flat_map}
use Rattle.std.proofs.lemmas.List.{append-nil, length-append}
use Rattle.std.proofs.lemmas.List.Sums.{sum_by-cons}
use Rattle.castor_val.specs.declared.value.Ty.{Ty}
use Rattle.castor_val.specs.declared.value.Ty.TheVariants.{Bool as Truth}
use Rattle.castor_alg.specs.declared.context.Context.{Context}
use Rattle.castor_alg.specs.declared.expr.Expr.{Expr}
use Rattle.castor_alg.specs.declared.rel.Agg.{Agg}
use Rattle.castor_alg.specs.declared.rel.Rel.{Rel}
use Rattle.castor_alg.specs.Typing.{aggregate_type, allowed, are_hash_keys, are_sorting_keys, common_types, cross_types, each, extended, group_types, is_context, is_of, is_range, same_types, type_under, types_of_each, types_under, with_both, within_limits}
use Rattle.castor_alg.proofs.RelInduction.{With, relations, rel_induction, fold-Table, fold-Scalar, fold-Cross, fold-Concat, fold-Select, fold-Filter, fold-Join, fold-DepJoin, fold-Group, fold-Order, fold-Dedup, fold-List, fold-Hash, fold-Ord}
use Rattle.castor_laws.proofs.TypeClauseLaws.{types_under-Table, types_under-Scalar, types_under-Cross, types_under-Concat, types_under-Select, types_under-Filter, types_under-Join, types_under-DepJoin, types_under-Group, types_under-Order, types_under-Dedup, types_under-List, types_under-Hash, types_under-Ord}
use Rattle.castor_laws.proofs.TypePartLaws.{allowed_parts, and_then_parts, both_parts, if_parts, limited_parts, map_parts}
use Rattle.castor_alg.specs.ColumnCount.{CountsColumns, column_count, column_count_step}

-- where the relation has column types, it has as many columns
abbrev pub Counted : Rel → Type 0
Counted q = (context : Context) (types : List Ty) → types_under q context ≡ Some types → column_count context.tables q ≡ length types

table_counted : (all : List (List Ty)) (n : ℕ) (types : List Ty) → slice_get all n ≡ Some types → length (slice_index_or all n []) ≡ length types
table_counted [] n types is = cc
table_counted (ts ∷ all) zero types is = let same : ts ≡ types = cc in ap length same
table_counted (ts ∷ all) (suc n) types is = table_counted all n types is

-- each of the parts gives one
each_counted : {X Y : Type 0} (f : X → Option Y) (xs : List X) (ys : List Y) → each (map f xs) ≡ Some ys → length xs ≡ length ys
each_counted f [] [] is = refl
each_counted f [] (y ∷ ys) is = cc
each_counted f (x ∷ xs) ys is =
    let parts = both_parts (λ y ys. y ∷ ys) (f x) (each (map f xs)) ys is in
    ap suc (each_counted f xs parts.1 parts.3) ∙ ap length parts.4

operands_counted : (rs : List (With Counted)) (context : Context) (all : List (List Ty)) → each (map (λ (r : Rel). types_under r context) (relations rs)) ≡ Some all → sum (map (column_count context.tables) (relations rs)) ≡ length (flat_map (λ types. types) all)
operands_counted [] context [] typed = refl
operands_counted [] context (types ∷ all) typed = cc
operands_counted (r ∷ rs) context all typed =
    let parts = both_parts (λ t ts. t ∷ ts) (types_under r.0 context) (each (map (λ (r : Rel). types_under r context) (relations rs))) all typed in
    sum_by-cons (λ n. n) (column_count context.tables r.0) (map (column_count context.tables) (relations rs))
    ∙ (λ i. r.1 context parts.0 parts.2 i + operands_counted rs context parts.1 parts.3 i)
    ∙ sym (length-append parts.0 (flat_map (λ types. types) parts.1))
    ∙ ap (λ (ts : List (List Ty)). length (flat_map (λ types. types) ts)) parts.4

first_counted : (rs : List (With Counted)) (context : Context) (all : List (List Ty)) (types : List Ty) → each (map (λ (r : Rel). types_under r context) (relations rs)) ≡ Some all → slice_get all 0 ≡ Some types → slice_index_or (map (column_count context.tables) (relations rs)) 0 0 ≡ length types
first_counted [] context [] types typed is = cc
first_counted [] context (ts ∷ all) types typed is = cc
first_counted (r ∷ rs) context all types typed is =
    let parts = both_parts (λ t ts. t ∷ ts) (types_under r.0 context) (each (map (λ (r : Rel). types_under r context) (relations rs))) all typed in
    let first : Some parts.0 ≡ Some types = ap (λ (list : List (List Ty)). slice_get list 0) parts.4 ∙ is in
    r.1 context types (parts.2 ∙ first)

groups_counted : (ks : List ℕ) (aggs : List Agg) (columns types : List Ty) → group_types ks aggs columns ≡ Some types → length ks + length aggs ≡ length types
groups_counted ks aggs columns types is =
    let keys = each (map (λ k. slice_get columns k) ks) in
    let values = each (map (aggregate_type columns) aggs) in
    let parts = both_parts (λ keys values. keys ++ values) keys values types (limited_parts (with_both (λ keys values. keys ++ values) keys values) types is) in
    (λ i. each_counted (λ k. slice_get columns k) ks parts.0 parts.2 i + each_counted (aggregate_type columns) aggs parts.1 parts.3 i)
    ∙ sym (length-append parts.0 parts.1) ∙ ap length parts.4

pub columns_counted : (q : Rel) → Counted q
columns_counted = rel_induction Counted record {
  table = λ n context types typed. fold-Table ℕ (column_count_step context.tables) n ∙ table_counted context.tables n types (sym (types_under-Table context n) ∙ typed);
  scalar = λ e context types typed.
      let part = map_parts (λ t. t ∷ []) (type_under e [] context) types (sym (types_under-Scalar context e) ∙ typed) in
      fold-Scalar ℕ (column_count_step context.tables) e ∙ ap length part.2;
  cross = λ rs context types typed.
      let part = map_parts (λ all. flat_map (λ ts. ts) all) (each (map (λ (r : Rel). types_under r context) (relations rs))) types (limited_parts _ types (sym (types_under-Cross context (relations rs)) ∙ typed)) in
      fold-Cross ℕ (column_count_step context.tables) (relations rs) ∙ operands_counted rs context part.0 part.1 ∙ ap length part.2;
  concat = λ rs context types typed.
      let operands = each (map (λ (r : Rel). types_under r context) (relations rs)) in
      let part = and_then_parts common_types operands types (sym (types_under-Concat context (relations rs)) ∙ typed) in
      let first = and_then_parts (λ first. allowed (list_all (λ types. same_types first types) part.0) first) (slice_get part.0 0) types part.2 in
      let same = (allowed_parts (list_all (λ types. same_types first.0 types) part.0) first.0 types first.2).1 in
      fold-Concat ℕ (column_count_step context.tables) (relations rs) ∙ first_counted rs context part.0 types part.1 (first.1 ∙ ap Some same);
  select = λ es r x context types typed.
      let part = and_then_parts (λ columns. within_limits (types_of_each es columns context)) (types_under r context) types (sym (types_under-Select context es r) ∙ typed) in
      fold-Select ℕ (column_count_step context.tables) es r ∙ each_counted (λ (e : Expr). type_under e part.0 context) es types (limited_parts (types_of_each es part.0 context) types part.2);
  filter = λ e r x context types typed.
      let part = and_then_parts (λ columns. allowed (is_of Truth (type_under e columns context)) columns) (types_under r context) types (sym (types_under-Filter context e r) ∙ typed) in
      fold-Filter ℕ (column_count_step context.tables) e r ∙ x context types (part.1 ∙ ap Some (allowed_parts (is_of Truth (type_under e part.0 context)) part.0 types part.2).1);
  join = λ e r s x y context types typed.
      let operands = types_under r context ∷ types_under s context ∷ [] in
      let part = and_then_parts (λ columns. allowed (is_of Truth (type_under e columns context)) columns) (cross_types operands) types (sym (types_under-Join context e r s) ∙ typed) in
      let same = (allowed_parts (is_of Truth (type_under e part.0 context)) part.0 types part.2).1 in
      let both = map_parts (λ all. flat_map (λ ts. ts) all) (each operands) types (limited_parts _ types (part.1 ∙ ap Some same)) in
      let first = both_parts (λ t ts. t ∷ ts) (types_under r context) (each (types_under s context ∷ [])) both.0 both.1 in
      let second = both_parts (λ t ts. t ∷ ts) (types_under s context) (each []) first.1 first.3 in
      let none : second.1 ≡ [] = cc in
      fold-Join ℕ (column_count_step context.tables) e r s
      ∙ (λ i. x context first.0 first.2 i + y context second.0 second.2 i)
      ∙ sym (length-append first.0 second.0)
      ∙ ap length (both_whole first.0 second.0 second.1 first.1 both.0 types none second.4 first.4 both.2);
  depjoin = λ k r s x y context types typed.
      let part = and_then_parts (λ columns. types_under s (extended context k columns)) (types_under r context) types (sym (types_under-DepJoin context k r s) ∙ typed) in
      fold-DepJoin ℕ (column_count_step context.tables) k r s ∙ y (extended context k part.0) types part.2;
  group = λ ks aggs r x context types typed.
      let part = and_then_parts (λ columns. group_types ks aggs columns) (types_under r context) types (sym (types_under-Group context ks aggs r) ∙ typed) in
      fold-Group ℕ (column_count_step context.tables) ks aggs r ∙ groups_counted ks aggs part.0 types part.2;
  order = λ ks r x context types typed.
      let part = and_then_parts (λ columns. allowed (are_sorting_keys ks columns) columns) (types_under r context) types (sym (types_under-Order context ks r) ∙ typed) in
      fold-Order ℕ (column_count_step context.tables) ks r ∙ x context types (part.1 ∙ ap Some (allowed_parts (are_sorting_keys ks part.0) part.0 types part.2).1);
  dedup = λ r x context types typed. fold-Dedup ℕ (column_count_step context.tables) r ∙ x context types (sym (types_under-Dedup context r) ∙ typed);
  list = λ k r s x y context types typed.
      let part = and_then_parts (λ columns. types_under s (extended context k columns)) (types_under r context) types (sym (types_under-List context k r s) ∙ typed) in
      fold-List ℕ (column_count_step context.tables) k r s ∙ y (extended context k part.0) types part.2;
  hash = λ k r s es x y context types typed.
      let part = and_then_parts (λ columns. if are_hash_keys columns (types_of_each es [] context) then types_under s (extended context k columns) else None) (types_under r context) types (sym (types_under-Hash context k r s es) ∙ typed) in
      fold-Hash ℕ (column_count_step context.tables) k r s es ∙ y (extended context k part.0) types (if_parts (are_hash_keys part.0 (types_of_each es [] context)) (types_under s (extended context k part.0)) types part.2).1;
  ordered = λ k r s lo hi x y context types typed.
      let part = and_then_parts (λ columns. if is_range columns lo hi context then types_under s (extended context k columns) else None) (types_under r context) types (sym (types_under-Ord context k r s lo hi) ∙ typed) in
      fold-Ord ℕ (column_count_step context.tables) k r s lo hi ∙ y (extended context k part.0) types (if_parts (is_range part.0 lo hi context) (types_under s (extended context k part.0)) types part.2).1;
}
  where
    both_whole : (a b : List Ty) (none rest both : List (List Ty)) (types : List Ty) → none ≡ [] → b ∷ none ≡ rest → a ∷ rest ≡ both → flat_map (λ ts. ts) both ≡ types → a ++ b ≡ types
    both_whole a b none rest both types is second first whole =
        let operands : a ∷ b ∷ [] ≡ both = cc in
        ap (λ ts. a ++ ts) (sym (append-nil b)) ∙ ap (λ (ts : List (List Ty)). flat_map (λ us. us) ts) operands ∙ whole

pub typed_columns_counted : (q : Rel) (context : Context) → CountsColumns q context
typed_columns_counted q context types typed = columns_counted q context types (if_parts (is_context context) (types_under q context) types typed).1
