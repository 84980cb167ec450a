-- A filter of the bodies goes to the source.
use Rattle.std.proofs.Common.{◌≡◌, ◌∙◌, List, [], ◌∷◌, ◌++◌, filter, cond, refl, sym, ap, Bool, true, false}
use Rattle.std.specs.List.{flat_map}
use Rattle.castor_val.specs.declared.fault.Faults.{Faults}
use Rattle.castor_val.specs.declared.row.Row.{Row}
use Rattle.castor_val.specs.Values.{no_faults, union}
use Rattle.castor_val.proofs.FaultLaws.{union-no_faults}
use Rattle.castor_alg.specs.declared.out.Out.{Out}
use Rattle.castor_alg.specs.Expression.{Answer}
use Rattle.castor_alg.specs.Rows.{depjoined, faults_in, filtered, is_true, union_over}
use Rattle.castor_laws.specs.Faultless.{HasValue}
use Rattle.castor_laws.proofs.EachLaws.{each_all}
use Rattle.castor_laws.proofs.OutcomeLaws.{outcome_by}
use Rattle.castor_laws.proofs.TotalRelLaws.{no_union_over}

-- all elements, or none
all_or_none : {X : Type 0} (t : Bool) (xs : List X) → filter (λ x. t) xs ≡ cond t xs []
all_or_none true [] = refl
all_or_none false [] = refl
all_or_none true (x ∷ xs) = ap (λ ys. x ∷ ys) (all_or_none true xs)
all_or_none false (x ∷ xs) = all_or_none false xs

module _ (test : Row → Answer) (body : Row → Out) (quiet : (row : Row) → HasValue (test row)) (faultless : (row : Row) → (body row).faults ≡ no_faults) where
  abbrev of_source : Row → Bool
  of_source row = is_true (test row)

  first_or_not : (t : Bool) (row : Row) (rows : List Row) → cond t (body row).rows [] ++ flat_map (λ a. (body a).rows) rows ≡ flat_map (λ a. (body a).rows) (cond t (row ∷ rows) rows)
  first_or_not true row rows = refl
  first_or_not false row rows = refl

  rows_of_source : (rows : List Row) → flat_map (λ a. filter (λ b. of_source a) (body a).rows) rows ≡ flat_map (λ a. (body a).rows) (filter of_source rows)
  rows_of_source [] = refl
  rows_of_source (row ∷ rows) = (λ i. all_or_none (of_source row) (body row).rows i ++ rows_of_source rows i) ∙ first_or_not (of_source row) row (filter of_source rows)

  test_faults : (row : Row) → faults_in (test row) ≡ no_faults
  test_faults row = ap faults_in (quiet row).1

  none_over : {X : Type 0} (f : X → Faults) → ((x : X) → f x ≡ no_faults) → (xs : List X) → union_over f xs ≡ no_faults
  none_over f none xs = no_union_over f (each_all (λ x. f x ≡ no_faults) none xs)

  body_faults : (row : Row) → union (body row).faults (union_over (λ (b : Row). faults_in (test row)) (body row).rows) ≡ no_faults
  body_faults row = ap (union (body row).faults) (none_over (λ (b : Row). faults_in (test row)) (λ b. test_faults row) (body row).rows) ∙ union-no_faults (body row).faults ∙ faultless row

  pub filter_of_source : (r : Out) → depjoined (λ row. filtered (λ other. test row) (body row)) r ≡ depjoined body (filtered test r)
  filter_of_source r =
      outcome_by (depjoined (λ row. filtered (λ other. test row) (body row)) r) (depjoined body (filtered test r)) (rows_of_source r.rows)
      (ap (union r.faults) (none_over (λ row. union (body row).faults (union_over (λ (b : Row). faults_in (test row)) (body row).rows)) body_faults r.rows)
      ∙ sym (ap (λ f. union f (union_over (λ row. (body row).faults) (filter of_source r.rows))) (ap (union r.faults) (none_over (λ row. faults_in (test row)) test_faults r.rows) ∙ union-no_faults r.faults)
      ∙ ap (union r.faults) (none_over (λ row. (body row).faults) faultless (filter of_source r.rows))))

pub filter_goes_to_source : (test : Row → Answer) (body : Row → Out) (r : Out) → ((row : Row) → HasValue (test row)) → ((row : Row) → (body row).faults ≡ no_faults) → depjoined (λ row. filtered (λ other. test row) (body row)) r ≡ depjoined body (filtered test r)
filter_goes_to_source test body r quiet faultless = filter_of_source test body quiet faultless r
