-- A filter by the keys of groups comes before the grouping.
use Rattle.std.proofs.Common.{◌≡◌, ◌∙◌, ℕ, List, [], ◌∷◌, ◌++◌, map, filter, refl, sym, ap, subst, cond, Bool, true, false, not, ◌&&◌, Result, Ok}
use Rattle.std.specs.List.{list_all, flat_map}
use Rattle.std.proofs.lemmas.List.Elements.{filter-append}
use Rattle.castor_val.specs.declared.fault.Faults.{Faults}
use Rattle.castor_val.specs.declared.row.Row.{Row}
use Rattle.castor_val.specs.Values.{no_faults, same_row, union}
use Rattle.castor_val.proofs.FaultLaws.{union-no_faults}
use Rattle.castor_val.proofs.OrderLaws.{equal_from_same_row}
use Rattle.castor_alg.specs.declared.out.Out.{Out}
use Rattle.castor_alg.specs.declared.rel.Agg.{Agg}
use Rattle.castor_alg.specs.Distinct.{distinct}
use Rattle.castor_alg.specs.Expression.{Answer}
use Rattle.castor_alg.specs.Groups.{aggregates, behind_key, group_row, grouped, key_of}
use Rattle.castor_alg.specs.Rows.{faults_in, filtered, is_true, row_in, selected, union_over}
use Rattle.castor_alg.specs.Totality.{is_sum}
use Rattle.castor_laws.specs.Faultless.{HasValue}
use Rattle.castor_laws.proofs.DecidingLaws.{filtered_values}
use Rattle.castor_laws.proofs.DistinctLaws.{filter_both, same_row-IsEqualityTest}
use Rattle.castor_laws.proofs.EachLaws.{Each, none, one, each_flat_map, each_weaker}
use Rattle.castor_laws.proofs.FilterLaws.{filter-distinct}
use Rattle.castor_laws.proofs.GroupPartLaws.{keys_of_rows}
use Rattle.castor_laws.proofs.OutcomeLaws.{outcome_by}
use Rattle.castor_laws.proofs.PartLaws.{each_passes}
use Rattle.castor_laws.proofs.TotalGroupLaws.{Occurs, but_sums, keys_occur, passing}
use Rattle.castor_laws.proofs.TotalRelLaws.{no_union_over}

pub each_both : {X : Type 0} (P Q : X → Type 0) {xs : List X} → Each P xs → Each Q xs → Each (λ x. P x × Q x) xs
each_both P Q none none = none
each_both P Q (one first rest) (one also others) = one (first, also) (each_both P Q rest others)

map_cond : (f : Row → Row) (x : Row) (xs : List Row) (b : Bool) → map f (cond b (x ∷ xs) xs) ≡ cond b (f x ∷ map f xs) (map f xs)
map_cond f x xs true = refl
map_cond f x xs false = refl

pub map-filter : (f : Row → Row) (p : Row → Bool) (rows : List Row) → map f (filter (λ a. p (f a)) rows) ≡ filter p (map f rows)
map-filter f p [] = refl
map-filter f p (x ∷ rows) = map_cond f x (filter (λ a. p (f a)) rows) (p (f x)) ∙ ap (λ zs. cond (p (f x)) (f x ∷ zs) zs) (map-filter f p rows)

flat_map_cond : (g : Row → List Row) (x : Row) (xs : List Row) (b : Bool) → flat_map g (cond b (x ∷ xs) xs) ≡ cond b (g x) [] ++ flat_map g xs
flat_map_cond g x xs true = refl
flat_map_cond g x xs false = refl

-- a filter over what each element leads to, where the element decides
pub filter-flat_map : (p q : Row → Bool) (g : Row → List Row) {xs : List Row} → Each (λ x. filter p (g x) ≡ cond (q x) (g x) []) xs → filter p (flat_map g xs) ≡ flat_map g (filter q xs)
filter-flat_map p q g none = refl
filter-flat_map p q g (one {x} {xs} first rest) = filter-append p (g x) (flat_map g xs) ∙ (λ i. first i ++ filter-flat_map p q g rest i) ∙ sym (flat_map_cond g x (filter q xs) (q x))

flat_map_same : (f g : Row → List Row) {xs : List Row} → Each (λ x. f x ≡ g x) xs → flat_map f xs ≡ flat_map g xs
flat_map_same f g none = refl
flat_map_same f g (one first rest) = λ i. first i ++ flat_map_same f g rest i

and_false : (b : Bool) → (b && false) ≡ false
and_false true = refl
and_false false = refl

module _ (k : ℕ) (ks : List ℕ) (aggs : List Agg) (r : Out) (over under : Row → Answer)
    (sumless : list_all (λ a. not (is_sum a)) aggs ≡ true)
    (decides : (row : Row) → HasValue (under row))
    (says : (of values : Row) → over (key_of (k ∷ ks) of ++ values) ≡ under of) where
  abbrev keys : Row → Row
  keys row = key_of (k ∷ ks) row

  -- what the filter says of every group with a key
  abbrev of_key : Row → Answer
  of_key key = over (key ++ [])

  abbrev holds : Row → Bool
  holds key = is_true (of_key key)

  abbrev distinct_keys : List Row
  distinct_keys = distinct same_row (map keys r.rows)

  abbrev kept : List Row
  kept = filter (λ row. holds (keys row)) r.rows

  abbrev row_of : Row → Result Row Faults
  row_of key = group_row (k ∷ ks) aggs r.rows key

  abbrev row_of_kept : Row → Result Row Faults
  row_of_kept key = group_row (k ∷ ks) aggs kept key

  -- each group has a row, on which the filter says what it says of the key
  abbrev HasRow : Row → Type 0
  HasRow key = (values : Row) × (row_of key ≡ Ok (key ++ values)) × (over (key ++ values) ≡ of_key key) × HasValue (of_key key)

  row_at : (key : Row) → Occurs (k ∷ ks) r.rows key × ((of : Row) × (key ≡ keys of)) → HasRow key
  row_at key (occurs, (of, is)) =
      let group = passing (λ row. same_row (keys row) key) r.rows occurs in
      let values = but_sums aggs sumless group.0 group.1 in
      let decided = subst (λ key. (over (key ++ values.0) ≡ of_key key) × HasValue (of_key key)) (sym is) (says of values.0 ∙ sym (says of []), subst HasValue (sym (says of [])) (decides of)) in
      (values.0, ap (behind_key key) (ap (aggregates aggs) group.2 ∙ values.1), decided.0, decided.1)

  all_have_rows : Each HasRow distinct_keys
  all_have_rows = each_weaker _ HasRow row_at (each_both _ _ (keys_occur (k ∷ ks) r.rows) (keys_of_rows keys r.rows))

  passes : (key : Row) → HasRow key → filter (λ row. is_true (over row)) (row_in (row_of key)) ≡ cond (holds key) (row_in (row_of key)) []
  passes key (values, is, said, value) =
      ap (λ a. filter (λ row. is_true (over row)) (row_in a)) is
      ∙ ap (λ a. cond (is_true a) ((key ++ values) ∷ []) []) said
      ∙ ap (λ a. cond (holds key) (row_in a) []) (sym is)

  no_fault : (key : Row) → HasRow key → faults_in (row_of key) ≡ no_faults
  no_fault key (values, is, said, value) = ap faults_in is

  over_faults_not : (key : Row) → HasRow key → Each (λ row. faults_in (over row) ≡ no_faults) (row_in (row_of key))
  over_faults_not key (values, is, said, value) = subst (λ a. Each (λ row. faults_in (over row) ≡ no_faults) (row_in a)) (sym is) (one (ap faults_in (said ∙ value.1)) none)

  -- the rows that have a key that passes all pass
  passes_too : (key : Row) → holds key ≡ true → (row : Row) (b : Bool) → same_row (keys row) key ≡ b → (holds (keys row) && b) ≡ b
  passes_too key passing row true is = ap (λ c. c && true) (ap holds (equal_from_same_row (keys row) key is) ∙ passing)
  passes_too key passing row false is = and_false (holds (keys row))

  same_group : (key : Row) → holds key ≡ true → row_of key ≡ row_of_kept key
  same_group key passing =
      ap (λ rows. behind_key key (aggregates aggs rows))
      ((λ i. filter (λ row. sym (passes_too key passing row (same_row (keys row) key) refl) i) r.rows) ∙ filter_both (λ row. same_row (keys row) key) (λ row. holds (keys row)) r.rows)

  abbrev passed : Out
  passed = record { rows = filter (λ row. is_true (under row)) r.rows; faults = r.faults }

  abbrev kept_out : Out
  kept_out = record { rows = kept; faults = r.faults }

  passed_is_kept : passed ≡ kept_out
  passed_is_kept = outcome_by passed kept_out (λ i. filter (λ row. is_true (sym (says row []) i)) r.rows) refl

  kept_keys : distinct same_row (map keys kept) ≡ filter holds distinct_keys
  kept_keys = ap (distinct same_row) (map-filter keys holds r.rows) ∙ sym (filter-distinct same_row same_row-IsEqualityTest holds (map keys r.rows))

  kept_have_rows : Each (λ key. HasRow key × (holds key ≡ true)) (filter holds distinct_keys)
  kept_have_rows = each_passes HasRow holds all_have_rows

  same_rows : filter (λ row. is_true (over row)) (flat_map (λ key. row_in (row_of key)) distinct_keys) ≡ flat_map (λ key. row_in (row_of_kept key)) (filter holds distinct_keys)
  same_rows =
      filter-flat_map (λ row. is_true (over row)) holds (λ key. row_in (row_of key)) (each_weaker HasRow _ passes all_have_rows)
      ∙ flat_map_same _ _ (each_weaker _ (λ key. row_in (row_of key) ≡ row_in (row_of_kept key)) (λ key is. ap row_in (same_group key is.1)) kept_have_rows)

  no_faults_before : union_over (λ key. faults_in (row_of key)) distinct_keys ≡ no_faults
  no_faults_before = no_union_over (λ key. faults_in (row_of key)) (each_weaker HasRow _ no_fault all_have_rows)

  no_faults_after : union_over (λ key. faults_in (row_of_kept key)) (filter holds distinct_keys) ≡ no_faults
  no_faults_after = no_union_over (λ key. faults_in (row_of_kept key)) (each_weaker _ (λ key. faults_in (row_of_kept key) ≡ no_faults) (λ key is. ap faults_in (sym (same_group key is.1)) ∙ no_fault key is.0) kept_have_rows)

  no_faults_over : union_over (λ row. faults_in (over row)) (flat_map (λ key. row_in (row_of key)) distinct_keys) ≡ no_faults
  no_faults_over = no_union_over (λ row. faults_in (over row)) (each_flat_map (λ row. faults_in (over row) ≡ no_faults) (λ key. row_in (row_of key)) (each_weaker HasRow _ over_faults_not all_have_rows))

  pub filter_under_groups : filtered over (grouped (k ∷ ks) aggs r) ≡ grouped (k ∷ ks) aggs (filtered under r)
  filter_under_groups =
      let before = selected row_of (record { rows = distinct_keys; faults = r.faults }) in
      let after = selected row_of_kept (record { rows = filter holds distinct_keys; faults = r.faults }) in
      outcome_by (filtered over before) after same_rows
      (ap (union before.faults) no_faults_over ∙ union-no_faults before.faults ∙ ap (union r.faults) (no_faults_before ∙ sym no_faults_after))
      ∙ ap (λ key_rows. selected row_of_kept (record { rows = key_rows; faults = r.faults })) (sym kept_keys)
      ∙ ap (grouped (k ∷ ks) aggs) (sym (filtered_values under decides r ∙ passed_is_kept))
