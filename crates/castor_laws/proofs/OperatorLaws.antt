-- Every operator keeps outcomes that are the same up to the order of rows.
use Rattle.std.proofs.Common.{◌≡◌, ◌∙◌, ℕ, List, [], ◌∷◌, ◌++◌, filter, map, refl, sym, ap, subst, cond, Bool, true, false, ◌&&◌, Result, Ok, Err}
use Rattle.std.specs.List.{list_any, flat_map, AllZip}
use Rattle.std.specs.Ordering.{is_lt}
use Rattle.castor_val.specs.declared.fault.Faults.{Faults}
use Rattle.castor_val.specs.declared.row.Row.{Row}
use Rattle.castor_val.specs.declared.value.Value.{Value}
use Rattle.castor_val.specs.Values.{column, same_row, union}
use Rattle.castor_alg.specs.declared.out.Out.{Out}
use Rattle.castor_alg.specs.declared.rel.Agg.{Agg}
use Rattle.castor_alg.specs.declared.rel.Key.{Key}
use Rattle.castor_alg.specs.Distinct.{deduped, distinct}
use Rattle.castor_alg.specs.Expression.{Answer}
use Rattle.castor_alg.specs.Groups.{behind_key, group_keys, group_row, grouped, key_of}
use Rattle.castor_alg.specs.Indexes.{found, hashed, ranged, ranged_within, refused}
use Rattle.castor_alg.specs.Rows.{combined, concatenated, crossed, depjoined, faults_in, filtered, is_true, row_in, selected, union_over}
use Rattle.castor_alg.specs.Sorting.{by_keys, inserted, row_lt, sorted, sorted_by}
use Rattle.castor_laws.specs.Operators.{OperatorsKeep}
use Rattle.castor_alg.specs.Permutation.{Permutes, nil, skip, swap, trans, SameUpToOrder}
use Rattle.castor_laws.proofs.AggregateLaws.{aggregates-permutes}
use Rattle.castor_laws.proofs.DistinctLaws.{distinct_rows_permute, each_at_key}
use Rattle.castor_laws.proofs.EachLaws.{Each, none, one, each_all, each_distinct, each_filter, each_from_All, each_weaker}
use Rattle.castor_laws.proofs.PermutationLaws.{append_permutes, each_permutes, filter_permutes, flat_map_each, flat_map_permutes, list_any-permutes, map_permutes, permutes_append, permutes_refl, permutes_sym, union_over-permutes}

pub same_refl : (a : Out) → SameUpToOrder a a
same_refl a = record { rows = permutes_refl a.rows; faults = refl }

pub same_sym : (a b : Out) → SameUpToOrder a b → SameUpToOrder b a
same_sym a b same = record { rows = permutes_sym same.rows; faults = sym same.faults }

pub same_trans : (a b c : Out) → SameUpToOrder a b → SameUpToOrder b c → SameUpToOrder a c
same_trans a b c same also = record { rows = trans same.rows also.rows; faults = same.faults ∙ also.faults }

-- sorting only moves elements
inserted_permutes : {X : Type 0} (lt : X → X → Bool) (a : X) (xs : List X) → Permutes (inserted lt a xs) (a ∷ xs)
inserted_permutes lt a [] = permutes_refl (a ∷ [])
inserted_permutes lt a (b ∷ bs) = placed lt a b bs (lt b a) (inserted_permutes lt a bs)
  where
    placed : {X : Type 0} (lt : X → X → Bool) (a b : X) (bs : List X) (less : Bool) → Permutes (inserted lt a bs) (a ∷ bs) → Permutes (cond less (b ∷ inserted lt a bs) (a ∷ b ∷ bs)) (a ∷ b ∷ bs)
    placed lt a b bs true rest = trans (skip rest) swap
    placed lt a b bs false rest = permutes_refl (a ∷ b ∷ bs)

pub sorted_permutes : {X : Type 0} (lt : X → X → Bool) (xs : List X) → Permutes (sorted lt xs) xs
sorted_permutes lt [] = nil
sorted_permutes lt (a ∷ xs) = trans (inserted_permutes lt a (sorted lt xs)) (skip (sorted_permutes lt xs))

pub both_sorted : {X : Type 0} (lt : X → X → Bool) {xs ys : List X} → Permutes xs ys → Permutes (sorted lt xs) (sorted lt ys)
both_sorted lt {xs} {ys} p = trans (sorted_permutes lt xs) (trans p (permutes_sym (sorted_permutes lt ys)))

pub sorted_by_same : (ks : List Key) (a : Out) → SameUpToOrder (sorted_by ks a) a
sorted_by_same ks a = record { rows = sorted_permutes (λ x y. is_lt (by_keys ks x y)) a.rows; faults = refl }

pub sorted_by_keeps : (ks : List Key) (a b : Out) → SameUpToOrder a b → SameUpToOrder (sorted_by ks a) (sorted_by ks b)
sorted_by_keeps ks a b same = record { rows = both_sorted (λ x y. is_lt (by_keys ks x y)) same.rows; faults = same.faults }

pub selected_keeps : (f : Row → Result Row Faults) (a b : Out) → SameUpToOrder a b → SameUpToOrder (selected f a) (selected f b)
selected_keeps f a b same = record {
  rows = flat_map_permutes (λ row. row_in (f row)) same.rows;
  faults = λ i. union (same.faults i) (union_over-permutes (λ row. faults_in (f row)) same.rows i);
}

pub filtered_keeps : (f : Row → Answer) (a b : Out) → SameUpToOrder a b → SameUpToOrder (filtered f a) (filtered f b)
filtered_keeps f a b same = record {
  rows = filter_permutes (λ row. is_true (f row)) same.rows;
  faults = λ i. union (same.faults i) (union_over-permutes (λ row. faults_in (f row)) same.rows i);
}

pub deduped_keeps : (a b : Out) → SameUpToOrder a b → SameUpToOrder (deduped a) (deduped b)
deduped_keeps a b same = record { rows = distinct_rows_permute same.rows; faults = same.faults }

-- groups
group_keys_permute : (ks : List ℕ) {xs ys : List Row} → Permutes xs ys → Permutes (group_keys ks xs) (group_keys ks ys)
group_keys_permute [] p = permutes_refl _
group_keys_permute (k ∷ ks) p = distinct_rows_permute (map_permutes (key_of (k ∷ ks)) p)

group_row-permutes : (ks : List ℕ) (aggs : List Agg) {xs ys : List Row} → Permutes xs ys → (key : Row) → group_row ks aggs xs key ≡ group_row ks aggs ys key
group_row-permutes ks aggs p key = ap (behind_key key) (aggregates-permutes aggs (filter_permutes (λ row. same_row (key_of ks row) key) p))

pub grouped_keeps : (ks : List ℕ) (aggs : List Agg) (a b : Out) → SameUpToOrder a b → SameUpToOrder (grouped ks aggs a) (grouped ks aggs b)
grouped_keeps ks aggs a b same =
    subst (λ f. SameUpToOrder (grouped ks aggs a) (selected f (record { rows = group_keys ks b.rows; faults = b.faults }))) (λ i key. group_row-permutes ks aggs same.rows key i)
    (selected_keeps (group_row ks aggs a.rows) _ _ record { rows = group_keys_permute ks same.rows; faults = same.faults })

-- all combinations, and one operand after the other
combined_keeps : (xs ys : List Out) → AllZip SameUpToOrder xs ys → Permutes (combined (map (λ (r : Out). r.rows) xs)) (combined (map (λ (r : Out). r.rows) ys))
combined_keeps [] [] same = permutes_refl _
combined_keeps [] (y ∷ ys) same = absurd same
combined_keeps (x ∷ xs) [] same = absurd same
combined_keeps (x ∷ xs) (y ∷ ys) (first, rest) =
    trans (flat_map_permutes (λ a. map (λ b. a ++ b) (combined (map (λ (r : Out). r.rows) xs))) first.rows)
    (flat_map_each _ _ (each_all _ (λ a. map_permutes (λ b. a ++ b) (combined_keeps xs ys rest)) y.rows))

operand_faults : (xs ys : List Out) → AllZip SameUpToOrder xs ys → union_over (λ (r : Out). r.faults) xs ≡ union_over (λ (r : Out). r.faults) ys
operand_faults [] [] same = refl
operand_faults [] (y ∷ ys) same = absurd same
operand_faults (x ∷ xs) [] same = absurd same
operand_faults (x ∷ xs) (y ∷ ys) (first, rest) = λ i. union (first.faults i) (operand_faults xs ys rest i)

pub crossed_keeps : (xs ys : List Out) → AllZip SameUpToOrder xs ys → SameUpToOrder (crossed xs) (crossed ys)
crossed_keeps xs ys same = record { rows = combined_keeps xs ys same; faults = operand_faults xs ys same }

appended_keeps : (xs ys : List Out) → AllZip SameUpToOrder xs ys → Permutes (flat_map (λ (r : Out). r.rows) xs) (flat_map (λ (r : Out). r.rows) ys)
appended_keeps [] [] same = nil
appended_keeps [] (y ∷ ys) same = absurd same
appended_keeps (x ∷ xs) [] same = absurd same
appended_keeps (x ∷ xs) (y ∷ ys) (first, rest) = trans (append_permutes x.rows (appended_keeps xs ys rest)) (permutes_append (flat_map (λ (r : Out). r.rows) ys) first.rows)

pub concatenated_keeps : (xs ys : List Out) → AllZip SameUpToOrder xs ys → SameUpToOrder (concatenated xs) (concatenated ys)
concatenated_keeps xs ys same = record { rows = appended_keeps xs ys same; faults = operand_faults xs ys same }

-- bodies that have the same outcome up to order under each row of the source
module _ (body other : Row → Out) where
  abbrev Under : List Row → Type 0
  Under rows = Each (λ row. SameUpToOrder (body row) (other row)) rows

  body_faults : {rows : List Row} → Under rows → union_over (λ row. (body row).faults) rows ≡ union_over (λ row. (other row).faults) rows
  body_faults none = refl
  body_faults (one first rest) = λ i. union (first.faults i) (body_faults rest i)

  pub depjoined_keeps : (a b : Out) → SameUpToOrder a b → Under a.rows → SameUpToOrder (depjoined body a) (depjoined other b)
  depjoined_keeps a b same under = record {
    rows = trans (flat_map_each (λ row. (body row).rows) (λ row. (other row).rows) (each_weaker _ _ (λ row is. is.rows) under)) (flat_map_permutes (λ row. (other row).rows) same.rows);
    faults = ap (union a.faults) (body_faults under) ∙ (λ i. union (same.faults i) (union_over-permutes (λ row. (other row).faults) same.rows i));
  }

  found_keeps : (a b : Out) (key : Row) (t : Bool) → SameUpToOrder a b → (t ≡ true → SameUpToOrder (body key) (other key)) → SameUpToOrder (found body a key t) (found other b key t)
  found_keeps a b key true same under = record { rows = (under refl).rows; faults = λ i. union (same.faults i) ((under refl).faults i) }
  found_keeps a b key false same under = record { rows = nil; faults = same.faults }

  refused_keeps : (a b : Out) (f : Faults) → SameUpToOrder a b → SameUpToOrder (refused a f) (refused b f)
  refused_keeps a b f same = record { rows = nil; faults = λ i. union (same.faults i) f }

  pub hashed_keeps : (a b : Out) (key : Result Row Faults) → SameUpToOrder a b → Under a.rows → SameUpToOrder (hashed body a key) (hashed other b key)
  hashed_keeps a b (Ok key) same under =
      subst (λ t. SameUpToOrder (found body a key (list_any (same_row key) a.rows)) (found other b key t)) (list_any-permutes (same_row key) same.rows)
      (found_keeps a b key (list_any (same_row key) a.rows) same (each_at_key (λ row. SameUpToOrder (body row) (other row)) key under))
  hashed_keeps a b (Err f) same under = refused_keeps a b f same

  ranged_within_keeps : (within : Value → Bool) (a b : Out) → SameUpToOrder a b → Under a.rows → SameUpToOrder (ranged_within within body a) (ranged_within within other b)
  ranged_within_keeps within a b same under =
      let inside = λ (row : Row). within (column row 0) in
      let reached = each_permutes _ (permutes_sym (sorted_permutes row_lt (filter inside (distinct same_row a.rows)))) (each_filter _ inside (each_distinct _ same_row under)) in
      depjoined_keeps
      (record { rows = sorted row_lt (filter inside (distinct same_row a.rows)); faults = a.faults })
      (record { rows = sorted row_lt (filter inside (distinct same_row b.rows)); faults = b.faults })
      record { rows = both_sorted row_lt (filter_permutes inside (distinct_rows_permute same.rows)); faults = same.faults }
      reached

  pub ranged_keeps : (a b : Out) (from to : Result (Value → Bool) Faults) → SameUpToOrder a b → Under a.rows → SameUpToOrder (ranged body a from to) (ranged other b from to)
  ranged_keeps a b (Ok f) (Ok g) same under = ranged_within_keeps (λ v. f v && g v) a b same under
  ranged_keeps a b (Ok f) (Err g) same under = refused_keeps a b g same
  ranged_keeps a b (Err f) (Ok g) same under = refused_keeps a b f same
  ranged_keeps a b (Err f) (Err g) same under = refused_keeps a b (union f g) same

abbrev Same : (Row → Out) → (Row → Out) → Row → Type 0
Same body other row = SameUpToOrder (body row) (other row)

pub operators_keep : OperatorsKeep
operators_keep = record {
  cross = crossed_keeps;
  concat = concatenated_keeps;
  select = selected_keeps;
  filter = filtered_keeps;
  group = grouped_keeps;
  order = sorted_by_keeps;
  dedup = deduped_keeps;
  depjoin = λ body other a b same under. depjoined_keeps body other a b same (each_from_All (Same body other) a.rows under);
  hash = λ body other a b key same under. hashed_keeps body other a b key same (each_from_All (Same body other) a.rows under);
  ordered = λ body other a b from to same under. ranged_keeps body other a b from to same (each_from_All (Same body other) a.rows under);
}
