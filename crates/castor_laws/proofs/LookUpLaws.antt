-- A filter by equal keys is a look-up in a hash index.
use Rattle.std.proofs.Common.{◌≡◌, ◌∙◌, List, [], ◌∷◌, map, filter, refl, sym, ap, cond, Bool, true, false, ◌||◌, Ok}
use Rattle.std.specs.List.{list_any}
use Rattle.castor_val.specs.declared.row.Row.{Row}
use Rattle.castor_val.specs.Values.{same_row, union}
use Rattle.castor_val.proofs.FaultLaws.{union_self}
use Rattle.castor_alg.specs.declared.out.Out.{Out}
use Rattle.castor_alg.specs.Expression.{Answer}
use Rattle.castor_alg.specs.Indexes.{found, hashed}
use Rattle.castor_alg.specs.Rows.{filtered, selected}
use Rattle.castor_laws.specs.Deciding.{DecidesOn}
use Rattle.castor_laws.proofs.DecidingLaws.{filtered_where}
use Rattle.castor_laws.proofs.DistinctLaws.{same_row-IsEqualityTest, test_sym}
use Rattle.castor_laws.proofs.OutcomeLaws.{outcome_by, selected_values}

clash : {P : Type 0} → true ≡ false → P
clash is = cc

first_dropped : (a : Row) (rows : List Row) (s t more : Bool) → s ≡ t → (s || more) ≡ false → (more ≡ false → rows ≡ []) → cond t (a ∷ rows) rows ≡ []
first_dropped a rows true t more is absent rest = clash absent
first_dropped a rows false true more is absent rest = clash (sym is)
first_dropped a rows false false more is absent rest = rest absent

-- where no row has the key, the filter keeps none
none_kept : (keys : Row → Row) (key : Row) (rows : List Row) → list_any (same_row key) (map keys rows) ≡ false → filter (λ row. same_row (keys row) key) rows ≡ []
none_kept keys key [] absent = refl
none_kept keys key (a ∷ rows) absent =
    first_dropped a (filter (λ row. same_row (keys row) key) rows) (same_row key (keys a)) (same_row (keys a) key) (list_any (same_row key) (map keys rows)) (test_sym same_row same_row-IsEqualityTest key (keys a)) absent (none_kept keys key rows)

module _ (keys : Row → Row) (key : Row) (r : Out) where
  abbrev with_key : Out
  with_key = record { rows = filter (λ row. same_row (keys row) key) r.rows; faults = r.faults }

  abbrev all_keys : Out
  all_keys = record { rows = map keys r.rows; faults = r.faults }

  found_is : (body : Row → Out) → body key ≡ with_key → (t : Bool) → list_any (same_row key) (map keys r.rows) ≡ t → with_key ≡ found body all_keys key t
  found_is body under true is = outcome_by with_key (found body all_keys key true) (sym (ap (λ (o : Out). o.rows) under)) (sym (ap (λ (o : Out). union r.faults o.faults) under ∙ union_self r.faults))
  found_is body under false is = outcome_by with_key (found body all_keys key false) (none_kept keys key r.rows is) refl

  pub filter_is_look_up : (test : Row → Answer) (body : Row → Out) → DecidesOn r.rows test (λ row. same_row (keys row) key) → body key ≡ filtered test r → filtered test r ≡ hashed body (selected (λ row. Ok (keys row)) r) (Ok key)
  filter_is_look_up test body decides under =
      let kept = filtered_where test (λ row. same_row (keys row) key) r decides in
      kept
      ∙ found_is body (under ∙ kept) (list_any (same_row key) (map keys r.rows)) refl
      ∙ ap (λ source. hashed body source (Ok key)) (sym (selected_values keys r))
