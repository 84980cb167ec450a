-- Filters and sorting change places, and a relation is split by a test.
use Rattle.std.proofs.Common.{◌≡◌, ◌∙◌, List, [], ◌∷◌, ◌++◌, filter, refl, sym, ap, subst, cond, Bool, true, false, not, ◌&&◌, Ok}
use Rattle.castor_val.specs.declared.fault.Faults.{Faults}
use Rattle.castor_val.specs.declared.row.Row.{Row}
use Rattle.castor_val.specs.declared.value.Value.TheVariants.{Bool as Truth}
use Rattle.castor_val.specs.Values.{same_row, union}
use Rattle.castor_val.proofs.FaultLaws.{union-no_faults, union_self}
use Rattle.castor_alg.specs.declared.out.Out.{Out}
use Rattle.castor_alg.specs.declared.rel.Key.{Key}
use Rattle.castor_alg.specs.Distinct.{deduped, distinct}
use Rattle.castor_alg.specs.Expression.{Answer, negation}
use Rattle.castor_alg.specs.Rows.{concatenated, filtered, is_true}
use Rattle.castor_alg.specs.Sorting.{sorted_by}
use Rattle.castor_laws.specs.Faultless.{HasValue}
use Rattle.castor_laws.specs.Deciding.{DecidesOn}
use Rattle.castor_alg.specs.Permutation.{Permutes, nil, skip, trans, SameUpToOrder}
use Rattle.castor_laws.proofs.DecidingLaws.{filtered_values, filtered_where}
use Rattle.castor_laws.proofs.DistinctLaws.{IsEqualityTest, filter_both, filters_commute, same_row-IsEqualityTest}
use Rattle.castor_laws.proofs.FilterLaws.{filter-distinct}
use Rattle.castor_laws.proofs.OperatorLaws.{filtered_keeps, same_sym, same_trans, sorted_by_same}
use Rattle.castor_laws.proofs.EachLaws.{All_from_each, each_from_All, each_weaker}
use Rattle.castor_laws.proofs.OutcomeLaws.{outcome_by}
use Rattle.castor_laws.proofs.PermutationLaws.{moved_behind}

abbrev faults : Out → Faults
faults r = r.faults

pub filters_exchange : (f g : Row → Answer) (r : Out) → ((row : Row) → HasValue (f row)) → ((row : Row) → HasValue (g row)) → filtered f (filtered g r) ≡ filtered g (filtered f r)
filters_exchange f g r f_values g_values =
    filtered_values f f_values (filtered g r)
    ∙ outcome_by (record { rows = filter (λ row. is_true (f row)) (filtered g r).rows; faults = (filtered g r).faults }) (record { rows = filter (λ row. is_true (g row)) (filtered f r).rows; faults = (filtered f r).faults })
    (filters_commute (λ row. is_true (f row)) (λ row. is_true (g row)) r.rows)
    (ap faults (filtered_values g g_values r) ∙ sym (ap faults (filtered_values f f_values r)))
    ∙ sym (filtered_values g g_values (filtered f r))

split_at : (p : Row → Bool) (x : Row) (xs : List Row) (b : Bool) → Permutes xs (filter p xs ++ (filter (λ y. not (p y)) xs ++ [])) → Permutes (x ∷ xs) (cond b (x ∷ filter p xs) (filter p xs) ++ (cond (not b) (x ∷ filter (λ y. not (p y)) xs) (filter (λ y. not (p y)) xs) ++ []))
split_at p x xs true rest = skip rest
split_at p x xs false rest = trans (skip rest) (moved_behind x (filter p xs) (filter (λ y. not (p y)) xs ++ []))

split_rows : (p : Row → Bool) (xs : List Row) → Permutes xs (filter p xs ++ (filter (λ y. not (p y)) xs ++ []))
split_rows p [] = nil
split_rows p (x ∷ xs) = split_at p x xs (p x) (split_rows p xs)

pub splits_by_test : (test : Row → Answer) (holds : Row → Bool) (r : Out) → DecidesOn r.rows test holds → SameUpToOrder r (concatenated (filtered test r ∷ filtered (λ row. negation (test row)) r ∷ []))
splits_by_test test holds r decides =
    let kept = filtered_where test holds r decides in
    let each = each_from_All (λ row. test row ≡ Ok (Truth (holds row))) r.rows decides in
    let negated = All_from_each (λ row. negation (test row) ≡ Ok (Truth (not (holds row)))) r.rows (each_weaker _ _ (λ row is. ap negation is) each) in
    let others = filtered_where (λ row. negation (test row)) (λ row. not (holds row)) r negated in
    let whole : SameUpToOrder r (concatenated (record { rows = filter holds r.rows; faults = r.faults } ∷ record { rows = filter (λ row. not (holds row)) r.rows; faults = r.faults } ∷ [])) =
    record { rows = split_rows holds r.rows; faults = sym (ap (union r.faults) (union-no_faults r.faults) ∙ union_self r.faults) } in
    subst (λ out. SameUpToOrder r out) (sym (λ i. concatenated (kept i ∷ others i ∷ []))) whole

module _ {X : Type 0} (same : X → X → Bool) (test : IsEqualityTest same) where
  and_self : (b : Bool) → (b && b) ≡ b
  and_self true = refl
  and_self false = refl

  filter_twice : (p : X → Bool) (xs : List X) → filter p (filter p xs) ≡ filter p xs
  filter_twice p xs = sym (filter_both p p xs) ∙ (λ i. filter (λ x. and_self (p x) i) xs)

  distinct-distinct : (xs : List X) → distinct same (distinct same xs) ≡ distinct same xs
  distinct-distinct [] = refl
  distinct-distinct (a ∷ xs) =
      ap (λ zs. a ∷ zs)
      (ap (filter (λ b. not (same a b))) (sym (filter-distinct same test (λ b. not (same a b)) (distinct same xs)) ∙ ap (filter (λ b. not (same a b))) (distinct-distinct xs))
      ∙ filter_twice (λ b. not (same a b)) (distinct same xs))

pub distinct_twice : (r : Out) → deduped (deduped r) ≡ deduped r
distinct_twice r = outcome_by (deduped (deduped r)) (deduped r) (distinct-distinct same_row same_row-IsEqualityTest r.rows) refl

pub sorts_under_filter : (keys : List Key) (f : Row → Answer) (r : Out) → SameUpToOrder (sorted_by keys (filtered f r)) (filtered f (sorted_by keys r))
sorts_under_filter keys f r =
    same_trans (sorted_by keys (filtered f r)) (filtered f r) (filtered f (sorted_by keys r)) (sorted_by_same keys (filtered f r))
    (filtered_keeps f r (sorted_by keys r) (same_sym (sorted_by keys r) r (sorted_by_same keys r)))
