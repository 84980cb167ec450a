-- Filters by a conjunction, and of distinct rows.
use Rattle.std.proofs.Common.{◌≡◌, ◌∙◌, List, [], ◌∷◌, filter, refl, sym, ap, cond, Bool, true, false, not, ◌&&◌, ◌||◌, Ok, Err}
use Rattle.std.specs.List.{list_any}
use Rattle.castor_val.specs.declared.fault.Faults.{Faults}
use Rattle.castor_val.specs.declared.row.Row.{Row}
use Rattle.castor_val.specs.declared.value.Value.{Value}
use Rattle.castor_val.specs.declared.value.Value.TheVariants.{Int, Bool as Truth, Text}
use Rattle.castor_val.specs.Values.{same_row, union}
use Rattle.castor_val.proofs.FaultLaws.{union_comm}
use Rattle.castor_alg.specs.declared.expr.Op.TheVariants.{And}
use Rattle.castor_alg.specs.declared.out.Out.{Out}
use Rattle.castor_alg.specs.Distinct.{deduped, distinct}
use Rattle.castor_alg.specs.Expression.{Answer, apply, both_sides}
use Rattle.castor_alg.specs.Rows.{faults_in, filtered, is_true, union_over}
use Rattle.castor_laws.specs.Faultless.{HasValue}
use Rattle.castor_laws.proofs.DistinctLaws.{IsEqualityTest, filter_both, filters_commute, same_row-IsEqualityTest}
use Rattle.castor_laws.proofs.OutcomeLaws.{no_more_faults, outcome_by}

abbrev conjunction : Answer → Answer → Answer
conjunction x y = both_sides (apply And) x y

truths_commute : (v w : Value) → apply And v w ≡ apply And w v
truths_commute (Truth true) (Truth true) = refl
truths_commute (Truth true) (Truth false) = refl
truths_commute (Truth false) (Truth true) = refl
truths_commute (Truth false) (Truth false) = refl
truths_commute (Truth a) (Int y) = refl
truths_commute (Truth a) (Text t) = refl
truths_commute (Int x) (Int y) = refl
truths_commute (Int x) (Truth b) = refl
truths_commute (Int x) (Text t) = refl
truths_commute (Text s) (Int y) = refl
truths_commute (Text s) (Truth b) = refl
truths_commute (Text s) (Text t) = refl

pub conjunction_commutes : (a b : Answer) → conjunction a b ≡ conjunction b a
conjunction_commutes (Ok v) (Ok w) = truths_commute v w
conjunction_commutes (Ok v) (Err g) = refl
conjunction_commutes (Err f) (Ok w) = refl
conjunction_commutes (Err f) (Err g) = ap Err (union_comm f g)

-- where the first side has a value, the conjunction is true where both are, and faults as the second does
conjunction_is_true : (v : Value) (y : Answer) → is_true (conjunction (Ok v) y) ≡ (is_true y && is_true (Ok v))
conjunction_is_true (Truth true) (Ok (Truth true)) = refl
conjunction_is_true (Truth true) (Ok (Truth false)) = refl
conjunction_is_true (Truth false) (Ok (Truth true)) = refl
conjunction_is_true (Truth false) (Ok (Truth false)) = refl
conjunction_is_true (Truth a) (Ok (Int z)) = refl
conjunction_is_true (Truth a) (Ok (Text t)) = refl
conjunction_is_true (Int x) (Ok (Truth true)) = refl
conjunction_is_true (Int x) (Ok (Truth false)) = refl
conjunction_is_true (Int x) (Ok (Int z)) = refl
conjunction_is_true (Int x) (Ok (Text t)) = refl
conjunction_is_true (Text x) (Ok (Truth true)) = refl
conjunction_is_true (Text x) (Ok (Truth false)) = refl
conjunction_is_true (Text x) (Ok (Int z)) = refl
conjunction_is_true (Text x) (Ok (Text t)) = refl
conjunction_is_true v (Err f) = refl

conjunction_faults : (v : Value) (y : Answer) → faults_in (conjunction (Ok v) y) ≡ faults_in y
conjunction_faults (Truth a) (Ok (Truth b)) = refl
conjunction_faults (Truth a) (Ok (Int z)) = refl
conjunction_faults (Truth a) (Ok (Text t)) = refl
conjunction_faults (Int x) (Ok w) = refl
conjunction_faults (Text x) (Ok w) = refl
conjunction_faults v (Err f) = refl

module _ (f g : Row → Answer) (values : (row : Row) → HasValue (f row)) where
  same_rows : (rows : List Row) → filter (λ row. is_true (conjunction (f row) (g row))) rows ≡ filter (λ row. is_true (f row)) (filter (λ row. is_true (g row)) rows)
  same_rows rows =
      let each = λ (row : Row). ap (λ x. is_true (conjunction x (g row))) (values row).1 ∙ conjunction_is_true (values row).0 (g row) ∙ ap (λ x. is_true (g row) && is_true x) (sym (values row).1) in
      (λ i. filter (λ row. each row i) rows) ∙ filter_both (λ row. is_true (f row)) (λ row. is_true (g row)) rows

  same_faults : (rows : List Row) → union_over (λ row. faults_in (conjunction (f row) (g row))) rows ≡ union_over (λ row. faults_in (g row)) rows
  same_faults rows =
      let each = λ (row : Row). ap (λ x. faults_in (conjunction x (g row))) (values row).1 ∙ conjunction_faults (values row).0 (g row) in
      λ i. union_over (λ row. each row i) rows

  first_adds_none : (faults : Faults) (rows : List Row) → union faults (union_over (λ row. faults_in (f row)) rows) ≡ faults
  first_adds_none faults rows = (λ i. union faults (union_over (λ row. faults_in ((values row).1 i)) rows)) ∙ no_more_faults faults rows

  pub filtered_by_both : (r : Out) → filtered (λ row. conjunction (f row) (g row)) r ≡ filtered f (filtered g r)
  filtered_by_both r =
      outcome_by (filtered (λ row. conjunction (f row) (g row)) r) (filtered f (filtered g r)) (same_rows r.rows)
      (ap (union r.faults) (same_faults r.rows) ∙ sym (first_adds_none (union r.faults (union_over (λ row. faults_in (g row)) r.rows)) (filter (λ row. is_true (g row)) r.rows)))

-- a filter of distinct elements
module _ {X : Type 0} (same : X → X → Bool) (test : IsEqualityTest same) where
  abbrev without : X → List X → List X
  without a xs = filter (λ b. not (same a b)) xs

  fails_too : (p : X → Bool) (a : X) → p a ≡ false → (b : X) (c : Bool) → same a b ≡ c → (not c && p b) ≡ p b
  fails_too p a fails b true is = sym (ap p (sym (test.only a b is)) ∙ fails)
  fails_too p a fails b false is = refl

  filter_at : (p : X → Bool) (a : X) (ds es : List X) (c : Bool) → p a ≡ c → filter p ds ≡ es → cond c (a ∷ filter p (without a ds)) (filter p (without a ds)) ≡ cond c (a ∷ without a es) es
  filter_at p a ds es true passes rest = ap (λ zs. a ∷ zs) (filters_commute p (λ b. not (same a b)) ds ∙ ap (filter (λ b. not (same a b))) rest)
  filter_at p a ds es false fails rest = sym (filter_both p (λ b. not (same a b)) ds) ∙ (λ i. filter (λ b. fails_too p a fails b (same a b) refl i) ds) ∙ rest

  distinct_cond : (a : X) (xs : List X) (c : Bool) → distinct same (cond c (a ∷ xs) xs) ≡ cond c (a ∷ without a (distinct same xs)) (distinct same xs)
  distinct_cond a xs true = refl
  distinct_cond a xs false = refl

  pub filter-distinct : (p : X → Bool) (xs : List X) → filter p (distinct same xs) ≡ distinct same (filter p xs)
  filter-distinct p [] = refl
  filter-distinct p (a ∷ xs) = filter_at p a (distinct same xs) _ (p a) refl (filter-distinct p xs) ∙ sym (distinct_cond a (filter p xs) (p a))

  any_step : (p : X → Bool) (a x : X) (xs : List X) → p a ≡ false → (c : Bool) → same a x ≡ c → list_any p (without a xs) ≡ list_any p xs → list_any p (cond (not c) (x ∷ without a xs) (without a xs)) ≡ (p x || list_any p xs)
  any_step p a x xs fails true is rest = rest ∙ sym (ap (λ b. b || list_any p xs) (ap p (sym (test.only a x is)) ∙ fails))
  any_step p a x xs fails false is rest = ap (λ b. p x || b) rest

  any_without : (p : X → Bool) (a : X) (xs : List X) → p a ≡ false → list_any p (without a xs) ≡ list_any p xs
  any_without p a [] fails = refl
  any_without p a (x ∷ xs) fails = any_step p a x xs fails (same a x) refl (any_without p a xs fails)

  any_at : (p : X → Bool) (a : X) (xs : List X) (c : Bool) → p a ≡ c → (c || list_any p (without a xs)) ≡ (c || list_any p xs)
  any_at p a xs true passes = refl
  any_at p a xs false fails = any_without p a xs fails

  pub list_any-distinct : (p : X → Bool) (xs : List X) → list_any p (distinct same xs) ≡ list_any p xs
  list_any-distinct p [] = refl
  list_any-distinct p (a ∷ xs) = any_at p a (distinct same xs) (p a) refl ∙ ap (λ b. p a || b) (list_any-distinct p xs)

pub union_over-distinct : (f : Row → Faults) (rows : List Row) → union_over f (distinct same_row rows) ≡ union_over f rows
union_over-distinct f rows = λ i. record {
  division = list_any-distinct same_row same_row-IsEqualityTest (λ row. (f row).division) rows i;
  overflow = list_any-distinct same_row same_row-IsEqualityTest (λ row. (f row).overflow) rows i;
  norows = list_any-distinct same_row same_row-IsEqualityTest (λ row. (f row).norows) rows i;
}

pub filtered-deduped : (test : Row → Answer) (r : Out) → filtered test (deduped r) ≡ deduped (filtered test r)
filtered-deduped test r =
    outcome_by (filtered test (deduped r)) (deduped (filtered test r)) (filter-distinct same_row same_row-IsEqualityTest (λ row. is_true (test row)) r.rows)
    (ap (union r.faults) (union_over-distinct (λ row. faults_in (test row)) r.rows))
