-- The forms of lists of expressions, of groupings and of sorting keys over columns.
use Rattle.std.proofs.Common.{◌≡◌, ◌∙◌, ℕ, ◌+◌, ◌≤◌, ◌<◌, List, [], ◌∷◌, ◌++◌, map, length, length-append, refl, sym, ap, Bool, true, false, ◌||◌, arith, nat_le, nat_lt, slice_get, Some}
use Rattle.std.specs.List.{list_all}
use Rattle.std.proofs.lemmas.Bool.{and_parts, le-leb, leb-true, lt-ltb, ltb-false, ltb-true}
use Rattle.std.proofs.lemmas.List.{length-map}
use Rattle.std.proofs.lemmas.Option.{slice_get_within}
use Rattle.castor_val.specs.declared.value.Ty.{Ty}
use Rattle.castor_val.specs.declared.value.Ty.TheVariants as ty
use Rattle.castor_alg.specs.declared.context.Context.{Context}
use Rattle.castor_alg.specs.declared.expr.Expr.{Expr}
use Rattle.castor_alg.specs.declared.rel.Agg.{Agg}
use Rattle.castor_alg.specs.declared.rel.Agg.TheVariants.{Count, Sum, Min, Max}
use Rattle.castor_alg.specs.declared.rel.Key.{Key}
use Rattle.castor_alg.specs.Sizes.{all_expr_nodes, deepest_expr}
use Rattle.castor_alg.specs.Typing.{aggregate_type, allowed, are_columns, are_sorting_keys, each, group_types, is_of, type_under, types_of_each, with_both, within_limits}
use Rattle.castor_laws.proofs.TypePartLaws.{allowed_parts, and_then_parts, both_parts, is_of-equal}
use Rattle.castor_code.specs.CodeForms.{agg_form, expr_form, group_form, key_form, some_form}
use Rattle.castor_code.specs.Forms.{bool_form, in_turn, u32_form}
use Rattle.castor_ltype.specs.Formed.{is_sized_expr}
use Rattle.castor_ltype.proofs.BoundLaws.{Bounded, bounded_behind, bounded_if, bounded_list, bounded_number, bounded_plain}
use Rattle.castor_ltype.proofs.ExprFormLaws.{each_length, exprs_formed}

-- 1 to 64 things
record Few (n : ℕ) : Type 0 where
  some : 0 < n
  most : n ≤ 64

few_columns : (columns : List Ty) → are_columns columns ≡ true → Few (length columns)
few_columns columns within =
    let parts = and_parts _ _ within in
    record { some = ltb-true 0 (length columns) parts.0; most = leb-true (length columns) 64 parts.1 }

short : (n : ℕ) → n ≤ 64 → nat_le n 65535 ≡ true
short n few = le-leb n 65535 (omega arith)

-- the expressions of a selection
pub selected_formed : (es : List Expr) (columns : List Ty) (context : Context) (types : List Ty) → within_limits (types_of_each es columns context) ≡ Some types → list_all is_sized_expr es ≡ true → Bounded (some_form expr_form es) (all_expr_nodes es) (deepest_expr es)
selected_formed es columns context types typed sized =
    let part = and_then_parts (λ columns. allowed (are_columns columns) columns) (types_of_each es columns context) types typed in
    let few = few_columns part.0 (allowed_parts (are_columns part.0) part.0 types part.2).0 in
    let some = few.some in
    let most = few.most in
    let same = each_length (map (λ e. type_under e columns context) es) part.0 part.1 in
    let count = length-map es (λ e. type_under e columns context) in
    bounded_if _ _ _ _ (lt-ltb 0 (length es) (omega arith)) (bounded_list expr_form es _ _ (short (length es) (omega arith)) (exprs_formed es columns context part.0 part.1 sized))

-- a number of a column
column_bounded : (columns : List Ty) (i : ℕ) → are_columns columns ≡ true → i < length columns → Bounded (u32_form i) 0 0
column_bounded columns i within below =
    let most = (few_columns columns within).most in
    bounded_number 4294967295 i (le-leb i 4294967295 (omega arith))

columns_bounded : (ks : List ℕ) (columns keys : List Ty) → are_columns columns ≡ true → each (map (λ k. slice_get columns k) ks) ≡ Some keys → Bounded (in_turn (map u32_form ks)) 0 0
columns_bounded [] columns keys within typed = bounded_plain _ _ 0 0 refl
columns_bounded (k ∷ ks) columns keys within typed =
    let parts = both_parts (λ t ts. t ∷ ts) (slice_get columns k) (each (map (λ k. slice_get columns k) ks)) keys typed in
    bounded_behind _ _ 0 0 (column_bounded columns k within (slice_get_within columns k parts.0 parts.2)) (columns_bounded ks columns parts.1 within parts.3)

agg_bounded : (agg : Agg) (columns : List Ty) (t : Ty) → are_columns columns ≡ true → aggregate_type columns agg ≡ Some t → Bounded (agg_form agg) 0 0
agg_bounded Count columns t within typed = bounded_number 255 0 refl
agg_bounded (Sum at) columns t within typed =
    let there = is_of-equal ty.Int (slice_get columns at) (allowed_parts (is_of ty.Int (slice_get columns at)) ty.Int t typed).0 in
    bounded_behind _ _ 0 0 (bounded_number 255 1 refl) (column_bounded columns at within (slice_get_within columns at ty.Int there))
agg_bounded (Min at) columns t within typed = bounded_behind _ _ 0 0 (bounded_number 255 2 refl) (column_bounded columns at within (slice_get_within columns at t typed))
agg_bounded (Max at) columns t within typed = bounded_behind _ _ 0 0 (bounded_number 255 3 refl) (column_bounded columns at within (slice_get_within columns at t typed))

aggs_bounded : (aggs : List Agg) (columns types : List Ty) → are_columns columns ≡ true → each (map (aggregate_type columns) aggs) ≡ Some types → Bounded (in_turn (map agg_form aggs)) 0 0
aggs_bounded [] columns types within typed = bounded_plain _ _ 0 0 refl
aggs_bounded (agg ∷ aggs) columns types within typed =
    let parts = both_parts (λ t ts. t ∷ ts) (aggregate_type columns agg) (each (map (aggregate_type columns) aggs)) types typed in
    bounded_behind _ _ 0 0 (agg_bounded agg columns parts.0 within parts.2) (aggs_bounded aggs columns parts.1 within parts.3)

-- one of two lists isn't empty
some_of_both : (m n : ℕ) → 0 < m + n → (nat_lt 0 m || nat_lt 0 n) ≡ true
some_of_both m n some = by (nat_lt 0 m) (nat_lt 0 n) refl refl
  where
    by : (s t : Bool) → nat_lt 0 m ≡ s → nat_lt 0 n ≡ t → (s || t) ≡ true
    by true t l e = refl
    by false true l e = refl
    by false false l e = let none = ltb-false 0 m l in let also = ltb-false 0 n e in absurd (omega arith)

length-both : (xs ys zs : List Ty) → xs ++ ys ≡ zs → length zs ≡ length xs + length ys
length-both xs ys zs is = ap (λ (ts : List Ty). length ts) (sym is) ∙ length-append xs ys

pub group_formed : (ks : List ℕ) (aggs : List Agg) (columns types : List Ty) → are_columns columns ≡ true → group_types ks aggs columns ≡ Some types → Bounded (group_form ks aggs) 0 0
group_formed ks aggs columns types within typed =
    let all = with_both (λ keys values. keys ++ values) (each (map (λ k. slice_get columns k) ks)) (each (map (aggregate_type columns) aggs)) in
    let part = and_then_parts (λ columns. allowed (are_columns columns) columns) all types typed in
    let parts = both_parts (λ keys values. keys ++ values) (each (map (λ k. slice_get columns k) ks)) (each (map (aggregate_type columns) aggs)) part.0 part.1 in
    let few = few_columns part.0 (allowed_parts (are_columns part.0) part.0 types part.2).0 in
    let some = few.some in
    let most = few.most in
    let whole = length-both parts.0 parts.1 part.0 parts.4 in
    let keys = each_length (map (λ k. slice_get columns k) ks) parts.0 parts.2 ∙ length-map ks (λ k. slice_get columns k) in
    let values = each_length (map (aggregate_type columns) aggs) parts.1 parts.3 ∙ length-map aggs (aggregate_type columns) in
    bounded_if _ _ 0 0 (some_of_both (length ks) (length aggs) (omega arith))
    (bounded_behind _ _ 0 0 (bounded_list u32_form ks 0 0 (short (length ks) (omega arith)) (columns_bounded ks columns parts.0 within parts.2)) (bounded_list agg_form aggs 0 0 (short (length aggs) (omega arith)) (aggs_bounded aggs columns parts.1 within parts.3)))

-- sorting keys
bool_bounded : (b : Bool) → Bounded (bool_form b) 0 0
bool_bounded true = bounded_number 255 1 refl
bool_bounded false = bounded_number 255 0 refl

keys_bounded : (ks : List Key) (columns : List Ty) → are_columns columns ≡ true → list_all (λ k. nat_lt k.col (length columns)) ks ≡ true → Bounded (in_turn (map key_form ks)) 0 0
keys_bounded [] columns within below = bounded_plain _ _ 0 0 refl
keys_bounded (k ∷ ks) columns within below =
    let parts = and_parts _ _ below in
    bounded_behind _ _ 0 0 (bounded_behind _ _ 0 0 (column_bounded columns k.col within (ltb-true k.col (length columns) parts.0)) (bool_bounded k.desc)) (keys_bounded ks columns within parts.1)

pub order_formed : (ks : List Key) (columns : List Ty) → are_columns columns ≡ true → are_sorting_keys ks columns ≡ true → Bounded (some_form key_form ks) 0 0
order_formed ks columns within sorting =
    let parts = and_parts _ _ sorting in
    let count = and_parts _ _ parts.0 in
    bounded_if _ _ 0 0 count.0 (bounded_list key_form ks 0 0 count.1 (keys_bounded ks columns within parts.1))
