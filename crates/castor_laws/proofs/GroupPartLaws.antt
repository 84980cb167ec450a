-- Groups by keys are a dependent join over the distinct keys.
use Rattle.std.proofs.Common.{◌≡◌, ◌∙◌, ℕ, List, [], ◌∷◌, ◌++◌, map, filter, refl, sym, ap, subst, Bool, true, false, ◌||◌, Result, Ok, Err}
use Rattle.std.specs.Prelude.{All}
use Rattle.castor_val.specs.declared.fault.Faults.{Faults}
use Rattle.castor_val.specs.declared.row.Row.{Row}
use Rattle.castor_val.specs.Values.{no_faults, same_row, union}
use Rattle.castor_val.proofs.FaultLaws.{union-no_faults}
use Rattle.castor_alg.specs.declared.out.Out.{Out}
use Rattle.castor_alg.specs.declared.rel.Agg.{Agg}
use Rattle.castor_alg.specs.Distinct.{deduped, distinct}
use Rattle.castor_alg.specs.Expression.{Answer}
use Rattle.castor_alg.specs.Groups.{aggregates, behind_key, group_row, grouped, key_of}
use Rattle.castor_alg.specs.Rows.{depjoined, faults_in, filtered, row_in, selected, union_over}
use Rattle.castor_laws.specs.Deciding.{DecidesOn}
use Rattle.castor_laws.proofs.DecidingLaws.{filtered_where}
use Rattle.castor_laws.proofs.EachLaws.{Each, each_all, each_distinct, each_from_All, each_map, each_weaker}
use Rattle.castor_laws.proofs.OutcomeLaws.{depjoined_same, outcome_by, selected_values, union_over-more}

-- each distinct key is the key of a row
abbrev IsKey : (Row → Row) → Row → Type 0
IsKey keys key = (of : Row) × (key ≡ keys of)

pub keys_of_rows : (keys : Row → Row) (rows : List Row) → Each (IsKey keys) (distinct same_row (map keys rows))
keys_of_rows keys rows = each_distinct (IsKey keys) same_row (each_map (IsKey keys) keys (each_all (λ row. IsKey keys (keys row)) (λ row. (row, refl)) rows))

-- and where something is known of all rows, of such a row
abbrev IsKnownKey : (Row → Type 0) → (Row → Row) → Row → Type 0
IsKnownKey P keys key = (of : Row) × P of × (key ≡ keys of)

pub keys_of_known_rows : (P : Row → Type 0) (keys : Row → Row) {rows : List Row} → Each P rows → Each (IsKnownKey P keys) (distinct same_row (map keys rows))
keys_of_known_rows P keys known = each_distinct (IsKnownKey P keys) same_row (each_map (IsKnownKey P keys) keys (each_weaker P (λ row. IsKnownKey P keys (keys row)) (λ row is. (row, is, refl)) known))

all_kept : {X : Type 0} (xs : List X) → filter (λ x. true) xs ≡ xs
all_kept [] = refl
all_kept (x ∷ xs) = ap (λ rest. x ∷ rest) (all_kept xs)

or_false : (b : Bool) → (b || false) ≡ b
or_false true = refl
or_false false = refl

union_over-one : {X : Type 0} (f : X → Faults) (x : X) → union_over f (x ∷ []) ≡ f x
union_over-one f x = λ i. record { division = or_false (f x).division i; overflow = or_false (f x).overflow i; norows = or_false (f x).norows i }

-- one group in all
abbrev single_group : Result Row Faults → Faults → Out
single_group a f = record { rows = row_in a ++ []; faults = union f (union_over (λ (key : Row). faults_in a) ([] ∷ [])) }

single_group_is : (a : Result Row Faults) (f : Faults) → single_group (behind_key [] a) f ≡ record { rows = row_in a; faults = union f (faults_in a) }
single_group_is (Ok row) f = outcome_by _ _ refl (ap (union f) (union_over-one (λ (key : Row). no_faults) []))
single_group_is (Err g) f = outcome_by _ _ refl (ap (union f) (union_over-one (λ (key : Row). g) []))

pub one_group : (aggs : List Agg) (r : Out) → grouped [] aggs r ≡ record { rows = row_in (aggregates aggs r.rows); faults = union r.faults (faults_in (aggregates aggs r.rows)) }
one_group aggs r = ap (λ rows. single_group (behind_key [] (aggregates aggs rows)) r.faults) (all_kept r.rows) ∙ single_group_is (aggregates aggs r.rows) r.faults

-- with the key put in front
keyed : (key : Row) (a : Result Row Faults) (f : Faults) → selected (λ row. Ok (key ++ row)) (record { rows = row_in a; faults = union f (faults_in a) }) ≡ record { rows = row_in (behind_key key a); faults = union f (faults_in (behind_key key a)) }
keyed key (Ok row) f = outcome_by _ _ refl (union-no_faults _)
keyed key (Err g) f = outcome_by _ _ refl (union-no_faults _)

module _ (k : ℕ) (ks : List ℕ) (aggs : List Agg) (r : Out) (test : Row → Row → Answer) (decides : All (λ of. DecidesOn r.rows (test (key_of (k ∷ ks) of)) (λ row. same_row (key_of (k ∷ ks) row) (key_of (k ∷ ks) of))) r.rows) where
  abbrev keys : Row → Row
  keys row = key_of (k ∷ ks) row

  abbrev row_of : Row → Result Row Faults
  row_of key = group_row (k ∷ ks) aggs r.rows key

  abbrev group_of : Row → Out
  group_of key = record { rows = row_in (row_of key); faults = union r.faults (faults_in (row_of key)) }

  abbrev body : Row → Out
  body key = selected (λ row. Ok (key ++ row)) (grouped [] aggs (filtered (test key) r))

  abbrev Decided : Row → Type 0
  Decided of = DecidesOn r.rows (test (keys of)) (λ row. same_row (keys row) (keys of))

  body_of : (of : Row) → Decided of → body (keys of) ≡ group_of (keys of)
  body_of of decided =
      ap (λ (o : Out). selected (λ row. Ok (keys of ++ row)) (grouped [] aggs o)) (filtered_where (test (keys of)) (λ row. same_row (keys row) (keys of)) r decided)
      ∙ ap (selected (λ row. Ok (keys of ++ row))) (one_group aggs (record { rows = filter (λ row. same_row (keys row) (keys of)) r.rows; faults = r.faults }))
      ∙ keyed (keys of) (aggregates aggs (filter (λ row. same_row (keys row) (keys of)) r.rows)) r.faults

  body_is : (key : Row) → IsKnownKey Decided keys key → group_of key ≡ body key
  body_is key (of, decided, is) = subst (λ key. group_of key ≡ body key) (sym is) (sym (body_of of decided))

  abbrev source : Out
  source = record { rows = distinct same_row (map keys r.rows); faults = r.faults }

  pub groups_are_parts : grouped (k ∷ ks) aggs r ≡ depjoined body (deduped (selected (λ row. Ok (keys row)) r))
  groups_are_parts =
      outcome_by (selected row_of source) (depjoined group_of source) refl (sym (union_over-more r.faults (λ key. faults_in (row_of key)) source.rows))
      ∙ depjoined_same group_of body source (each_weaker (IsKnownKey Decided keys) (λ key. group_of key ≡ body key) body_is (keys_of_known_rows Decided keys (each_from_All Decided r.rows decides)))
      ∙ ap (λ (o : Out). depjoined body (deduped o)) (sym (selected_values keys r))
