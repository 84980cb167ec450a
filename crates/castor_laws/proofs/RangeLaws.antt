-- A filter by bounds is a look-up in an ordered index.
use Rattle.std.proofs.Common.{◌≡◌, ◌∙◌, List, [], ◌∷◌, map, filter, refl, sym, ap, subst, Bool, ◌&&◌, Ok}
use Rattle.std.specs.Prelude.{All}
use Rattle.std.specs.List.{flat_map}
use Rattle.std.specs.Ordering.{is_eq, ordering_then}
use Rattle.std.specs.declared.cmp.Ordering.{Ordering}
use Rattle.std.specs.declared.cmp.Ordering.TheVariants.{Less, Equal, Greater}
use Rattle.castor_val.specs.declared.row.Row.{Row}
use Rattle.castor_val.specs.declared.value.Value.{Value}
use Rattle.castor_val.specs.declared.value.Value.TheVariants.{Bool as Truth}
use Rattle.castor_val.specs.Values.{column, no_faults, same_row, same_value, union, value_cmp}
use Rattle.castor_val.proofs.FaultLaws.{union-no_faults}
use Rattle.castor_alg.specs.declared.out.Out.{Out}
use Rattle.castor_alg.specs.Distinct.{distinct}
use Rattle.castor_alg.specs.Expression.{Answer}
use Rattle.castor_alg.specs.Indexes.{ranged, ranged_within}
use Rattle.castor_alg.specs.Rows.{depjoined, filtered, selected, union_over}
use Rattle.castor_alg.specs.Sorting.{row_lt, sorted}
use Rattle.castor_laws.specs.Deciding.{DecidesOn}
use Rattle.castor_laws.proofs.DecidingLaws.{filtered_where}
use Rattle.castor_alg.specs.Permutation.{SameUpToOrder}
use Rattle.castor_laws.proofs.DistinctLaws.{same_row-IsEqualityTest}
use Rattle.castor_laws.proofs.EachLaws.{Each, each_filter, each_from_All, each_weaker}
use Rattle.castor_laws.proofs.GroupPartLaws.{keys_of_known_rows}
use Rattle.castor_laws.proofs.OperatorLaws.{sorted_permutes}
use Rattle.castor_laws.proofs.OutcomeLaws.{depjoined_same, no_more_faults, outcome_by, selected_values, tested, union_over-more}
use Rattle.castor_laws.proofs.PartLaws.{sorted_parts_within}
use Rattle.castor_laws.proofs.PermutationLaws.{each_permutes, permutes_sym}

-- rows of one value are equal where the values are
one_value : (order : Ordering) → is_eq order ≡ is_eq (ordering_then order Equal)
one_value Less = refl
one_value Equal = refl
one_value Greater = refl

module _ (at : Row → Value) (r : Out) (test : Row → Answer) (from to : Value → Bool) (body : Row → Out)
    (decides : DecidesOn r.rows test (λ row. from (at row) && to (at row)))
    (bodies : All (λ of. body (at of ∷ []) ≡ filtered (λ row. Ok (Truth (same_value (at row) (at of)))) r) r.rows) where
  abbrev keys : Row → Row
  keys row = at row ∷ []

  abbrev within : Row → Bool
  within key = from (column key 0) && to (column key 0)

  abbrev reached : List Row
  reached = sorted row_lt (filter within (distinct same_row (map keys r.rows)))

  abbrev part_of : Row → Out
  part_of key = record { rows = filter (λ row. same_row (keys row) key) r.rows; faults = r.faults }

  abbrev HasBody : Row → Type 0
  HasBody of = body (keys of) ≡ filtered (λ row. Ok (Truth (same_value (at row) (at of)))) r

  part_at : (of : Row) → HasBody of → part_of (keys of) ≡ body (keys of)
  part_at of has =
      (λ i. record { rows = filter (λ row. sym (one_value (value_cmp (at row) (at of))) i) r.rows; faults = r.faults })
      ∙ sym (has ∙ tested (λ row. same_value (at row) (at of)) r)

  part_is : (key : Row) → (of : Row) × HasBody of × (key ≡ keys of) → part_of key ≡ body key
  part_is key (of, has, is) = subst (λ key. part_of key ≡ body key) (sym is) (part_at of has)

  reached_parts : Each (λ key. part_of key ≡ body key) reached
  reached_parts =
      each_weaker _ _ part_is (each_permutes _ (permutes_sym (sorted_permutes row_lt (filter within (distinct same_row (map keys r.rows))))) (each_filter _ within (keys_of_known_rows HasBody keys (each_from_All HasBody r.rows bodies))))

  abbrev source : Out
  source = record { rows = reached; faults = r.faults }

  again : union r.faults (union_over (λ (key : Row). r.faults) reached) ≡ r.faults
  again =
      (λ i. union r.faults (union_over (λ (key : Row). sym (union-no_faults r.faults) i) reached))
      ∙ union_over-more r.faults (λ (key : Row). no_faults) reached ∙ no_more_faults r.faults reached

  index_is : ranged body (selected (λ row. Ok (keys row)) r) (Ok from) (Ok to) ≡ record { rows = flat_map (λ key. filter (λ row. same_row (keys row) key) r.rows) reached; faults = r.faults }
  index_is =
      ap (ranged_within (λ v. from v && to v) body) (selected_values keys r)
      ∙ sym (depjoined_same part_of body source reached_parts)
      ∙ outcome_by (depjoined part_of source) (record { rows = flat_map (λ key. filter (λ row. same_row (keys row) key) r.rows) reached; faults = r.faults }) refl again

  pub filter_is_range : SameUpToOrder (filtered test r) (ranged body (selected (λ row. Ok (keys row)) r) (Ok from) (Ok to))
  filter_is_range =
      subst (λ out. SameUpToOrder out (ranged body (selected (λ row. Ok (keys row)) r) (Ok from) (Ok to))) (sym (filtered_where test (λ row. within (keys row)) r decides))
      (subst (λ out. SameUpToOrder (record { rows = filter (λ row. within (keys row)) r.rows; faults = r.faults }) out) (sym index_is)
      record { rows = permutes_sym (sorted_parts_within same_row same_row-IsEqualityTest keys within row_lt r.rows); faults = refl })
