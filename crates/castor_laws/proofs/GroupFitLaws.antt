-- The rows of groups are of their types.
use Rattle.std.proofs.Common.{◌≡◌, ℕ, ◌<◌, ◌^◌, ◌-◌, min, pos, List, [], ◌∷◌, ◌++◌, length, map, filter, fold, Bool, true, false, refl, sym, subst, cond, Some, slice_get, Result, Ok, Err, arith}
use Rattle.std.specs.Ordering.{is_lt, is_gt}
use Rattle.std.proofs.lemmas.Bool.{and_from, lt-ltb}
use Rattle.castor_val.specs.declared.fault.Faults.{Faults}
use Rattle.castor_val.specs.declared.row.Row.{Row}
use Rattle.castor_val.specs.declared.value.Ty.{Ty}
use Rattle.castor_val.specs.declared.value.Ty.TheVariants as ty
use Rattle.castor_val.specs.declared.value.Value.{Value}
use Rattle.castor_val.specs.declared.value.Value.TheVariants.{Int}
use Rattle.castor_val.specs.Values.{column, row_fits, same_row, value_cmp, value_fits}
use Rattle.castor_val.proofs.FitLaws.{row_fits-append}
use Rattle.castor_alg.specs.declared.rel.Agg.{Agg}
use Rattle.castor_alg.specs.declared.rel.Agg.TheVariants.{Count, Sum, Min, Max}
use Rattle.castor_alg.specs.Groups.{aggregate, aggregates, behind_key, best, greater, group_keys, group_row, key_of, lesser, total}
use Rattle.castor_alg.specs.Rows.{row_in}
use Rattle.castor_alg.specs.Typing.{aggregate_type, each, group_types, is_of, with_both}
use Rattle.castor_laws.specs.Fitting.{answer_fits, answers_fit}
use Rattle.castor_laws.proofs.EachLaws.{Each, none, one, each_distinct, each_filter, each_map, each_weaker}
use Rattle.castor_laws.proofs.TypePartLaws.{allowed_parts, both_parts, limited_parts}
use Rattle.castor_laws.proofs.ValueFitLaws.{AllFit, column_fits, put_front_fits, row_in_fits, whole_fits}

-- a choice of two values is one of them
lesser_fits : (t : Ty) (a b : Value) → value_fits a t ≡ true → value_fits b t ≡ true → value_fits (lesser a b) t ≡ true
lesser_fits t a b left right = chosen (is_lt (value_cmp b a))
  where
    chosen : (c : Bool) → value_fits (cond c b a) t ≡ true
    chosen true = right
    chosen false = left

greater_fits : (t : Ty) (a b : Value) → value_fits a t ≡ true → value_fits b t ≡ true → value_fits (greater a b) t ≡ true
greater_fits t a b left right = chosen (is_gt (value_cmp b a))
  where
    chosen : (c : Bool) → value_fits (cond c b a) t ≡ true
    chosen true = right
    chosen false = left

module _ (f : Value → Value → Value) (t : Ty) (choice : (a b : Value) → value_fits a t ≡ true → value_fits b t ≡ true → value_fits (f a b) t ≡ true) where
  fold_fits : (v : Value) {vs : List Value} → value_fits v t ≡ true → Each (λ w. value_fits w t ≡ true) vs → value_fits (fold f v vs) t ≡ true
  fold_fits v fits none = fits
  fold_fits v fits (one {x} first rest) = fold_fits (f v x) (choice v x fits first) rest

  best_fits : {vs : List Value} → Each (λ w. value_fits w t ≡ true) vs → answer_fits (best f vs) t ≡ true
  best_fits none = refl
  best_fits (one {x} first rest) = fold_fits x first rest

module _ (columns : List Ty) where
  column_values_fit : (at : ℕ) (t : Ty) → slice_get columns at ≡ Some t → {rows : List Row} → AllFit columns rows → Each (λ v. value_fits v t ≡ true) (map (λ row. column row at) rows)
  column_values_fit at t is fits = each_map (λ v. value_fits v t ≡ true) (λ row. column row at) (each_weaker _ _ (λ row fit. column_fits row columns at t fit is) fits)

  aggregate_fits : (a : Agg) (t : Ty) → aggregate_type columns a ≡ Some t → {rows : List Row} → AllFit columns rows → answer_fits (aggregate a rows) t ≡ true
  aggregate_fits Count t typed {rows} fits =
      let same : ty.Int ≡ t = cc in
      let below : min (length rows) (2 ^ 63 - 1) < 2 ^ 63 = omega arith in
      subst (λ u. value_fits (Int (pos (min (length rows) (2 ^ 63 - 1)))) u ≡ true) same (lt-ltb (min (length rows) (2 ^ 63 - 1)) (2 ^ 63) below)
  aggregate_fits (Sum at) t typed {rows} fits =
      subst (λ u. answer_fits (aggregate (Sum at) rows) u ≡ true) (allowed_parts (is_of ty.Int (slice_get columns at)) ty.Int t typed).1 (whole_fits (total at rows))
  aggregate_fits (Min at) t typed fits = best_fits lesser t (lesser_fits t) (column_values_fit at t typed fits)
  aggregate_fits (Max at) t typed fits = best_fits greater t (greater_fits t) (column_values_fit at t typed fits)

  aggregates_fit : (aggs : List Agg) (types : List Ty) → each (map (aggregate_type columns) aggs) ≡ Some types → {rows : List Row} → AllFit columns rows → answers_fit (aggregates aggs rows) types ≡ true
  aggregates_fit [] types typed fits = let same : [] ≡ types = cc in subst (λ ts. row_fits [] ts ≡ true) same refl
  aggregates_fit (a ∷ aggs) types typed {rows} fits =
      let parts = both_parts (λ t ts. t ∷ ts) (aggregate_type columns a) (each (map (aggregate_type columns) aggs)) types typed in
      subst (λ ts. answers_fit (aggregates (a ∷ aggs) rows) ts ≡ true) parts.4
      (put_front_fits (aggregate a rows) (aggregates aggs rows) parts.0 parts.1 (aggregate_fits a parts.0 parts.2 fits) (aggregates_fit aggs parts.1 parts.3 fits))

  key_fits : (ks : List ℕ) (types : List Ty) → each (map (λ k. slice_get columns k) ks) ≡ Some types → (row : Row) → row_fits row columns ≡ true → row_fits (key_of ks row) types ≡ true
  key_fits [] types typed row fits = let same : [] ≡ types = cc in subst (λ ts. row_fits [] ts ≡ true) same refl
  key_fits (k ∷ ks) types typed row fits =
      let parts = both_parts (λ t ts. t ∷ ts) (slice_get columns k) (each (map (λ k. slice_get columns k) ks)) types typed in
      subst (λ ts. row_fits (key_of (k ∷ ks) row) ts ≡ true) parts.4
      (and_from (value_fits (column row k) parts.0) (row_fits (key_of ks row) parts.1) (column_fits row columns k parts.0 fits parts.2) (key_fits ks parts.1 parts.3 row fits))

  keys_fit : (ks : List ℕ) (types : List Ty) → each (map (λ k. slice_get columns k) ks) ≡ Some types → {rows : List Row} → AllFit columns rows → AllFit types (group_keys ks rows)
  keys_fit [] types typed fits = let same : [] ≡ types = cc in one (subst (λ ts. row_fits [] ts ≡ true) same refl) none
  keys_fit (k ∷ ks) types typed fits = each_distinct (λ key. row_fits key types ≡ true) same_row (each_map (λ key. row_fits key types ≡ true) (key_of (k ∷ ks)) (each_weaker _ _ (λ row fit. key_fits (k ∷ ks) types typed row fit) fits))

  behind_key_fits : (key : Row) (r : Result Row Faults) (types more : List Ty) → row_fits key types ≡ true → answers_fit r more ≡ true → answers_fit (behind_key key r) (types ++ more) ≡ true
  behind_key_fits key (Ok row) types more first rest = row_fits-append key row types more first rest
  behind_key_fits key (Err f) types more first rest = refl

  -- the rows of all groups
  pub groups_fit : (ks : List ℕ) (aggs : List Agg) (types : List Ty) → group_types ks aggs columns ≡ Some types → {rows : List Row} → AllFit columns rows → {keys : List Row} → keys ≡ group_keys ks rows → Each (λ key. AllFit types (row_in (group_row ks aggs rows key))) keys
  groups_fit ks aggs types typed {rows} fits {keys} are =
      let joined = with_both (λ keys values. keys ++ values) (each (map (λ k. slice_get columns k) ks)) (each (map (aggregate_type columns) aggs)) in
      let parts = both_parts (λ keys values. keys ++ values) (each (map (λ k. slice_get columns k) ks)) (each (map (aggregate_type columns) aggs)) types (limited_parts joined types typed) in
      let all = subst (λ list. AllFit parts.0 list) (sym are) (keys_fit ks parts.0 parts.2 fits) in
      each_weaker _ _ (λ key fit. row_in_fits (group_row ks aggs rows key) types
      (subst (λ ts. answers_fit (group_row ks aggs rows key) ts ≡ true) parts.4
      (behind_key_fits key (aggregates aggs (filter (λ row. same_row (key_of ks row) key) rows)) parts.0 parts.1 fit
      (aggregates_fit aggs parts.1 parts.3 (each_filter (λ row. row_fits row columns ≡ true) (λ row. same_row (key_of ks row) key) fits))))) all
