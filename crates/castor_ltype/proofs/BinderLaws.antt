-- The bodies of binders over what is held for their rows and keys.
use Rattle.std.proofs.Common.{◌≡◌, ◌∙◌, List, [], ◌∷◌, ◌++◌, map, filter, cond, refl, sym, ap, Bool, true, false, ◌&&◌, ◌||◌, if◌then◌else◌, Result, Ok, Err}
use Rattle.std.specs.List.{flat_map, list_any}
use Rattle.castor_val.specs.declared.fault.Faults.{Faults}
use Rattle.castor_val.specs.declared.row.Row.{Row}
use Rattle.castor_val.specs.declared.value.Value.{Value}
use Rattle.castor_val.specs.Values.{column, no_faults, same_row, union}
use Rattle.castor_alg.specs.declared.held.Entry.{Entry}
use Rattle.castor_alg.specs.declared.held.Held.{Held}
use Rattle.castor_alg.specs.declared.out.Out.{Out}
use Rattle.castor_alg.specs.Distinct.{distinct}
use Rattle.castor_alg.specs.Indexes.{found, hashed, ranged}
use Rattle.castor_alg.specs.Rows.{concatenated, depjoined, union_over}
use Rattle.castor_alg.specs.Scopes.{Scopes}
use Rattle.castor_alg.specs.Sorting.{row_lt, sorted}
use Rattle.castor_laws.proofs.DistinctLaws.{same_row-IsEqualityTest}
use Rattle.castor_laws.proofs.FilterLaws.{list_any-distinct}
use Rattle.castor_laws.proofs.OperatorLaws.{sorted_permutes}
use Rattle.castor_laws.proofs.PermutationLaws.{list_any-permutes}
use Rattle.castor_laws.proofs.SortingLaws.{rows_order}
use Rattle.castor_alg.specs.declared.held_out.HeldOut.{HeldOut}
use Rattle.castor_alg.specs.HeldData.{entry, keys_of}
use Rattle.castor_code.specs.LayoutMeaning.{CodeMeaning, child_under, entries_within, looked_up, nothing, ranged_over}
use Rattle.castor_ltype.proofs.FaultLaws.{none_left, none_right}
use Rattle.castor_ltype.proofs.SortedFilterLaws.{sorted-filter}

any-map : {X Y : Type 0} (f : X → Y) (p : Y → Bool) (xs : List X) → list_any p (map f xs) ≡ list_any (λ x. p (f x)) xs
any-map f p [] = refl
any-map f p (x ∷ xs) = ap (λ b. p (f x) || b) (any-map f p xs)

rows_along : {X : Type 0} (f : X → Out) (xs : List X) → flat_map (λ (r : Out). r.rows) (map f xs) ≡ flat_map (λ x. (f x).rows) xs
rows_along f [] = refl
rows_along f (x ∷ xs) = ap (λ rows. (f x).rows ++ rows) (rows_along f xs)

faults_along : {X : Type 0} (f : X → Out) (xs : List X) → union_over (λ (r : Out). r.faults) (map f xs) ≡ union_over (λ x. (f x).faults) xs
faults_along f xs = λ i. record {
  division = any-map f (λ (r : Out). r.faults.division) xs i;
  overflow = any-map f (λ (r : Out). r.faults.overflow) xs i;
  norows = any-map f (λ (r : Out). r.faults.norows) xs i;
}

-- one body after the other, where the source has no faults
joined : (f : Row → Out) (r : Out) → r.faults ≡ no_faults → concatenated (map f r.rows) ≡ depjoined f r
joined f r none = λ i. record { rows = rows_along f r.rows i; faults = (faults_along f r.rows ∙ sym (ap (λ (g : Faults). union g (union_over (λ a. (f a).faults) r.rows)) none)) i }

-- what is held under each row, and what the body means under it
module _ (hold : Row → HeldOut) (mean : Held → Out) (body : Row → Out) (each : (a : Row) → (hold a).faults ≡ no_faults → mean (hold a).held ≡ body a) where
  pub rows_mean : (rows : List Row) → union_over (λ a. (hold a).faults) rows ≡ no_faults → map mean (map (λ a. (hold a).held) rows) ≡ map body rows
  rows_mean [] none = refl
  rows_mean (a ∷ rows) none =
      let first = each a (none_left (hold a).faults (union_over (λ b. (hold b).faults) rows) none) in
      let rest = rows_mean rows (none_right (hold a).faults (union_over (λ b. (hold b).faults) rows) none) in
      λ i. first i ∷ rest i

  pub list_means : (r : Out) → union r.faults (union_over (λ a. (hold a).faults) r.rows) ≡ no_faults → concatenated (map mean (map (λ a. (hold a).held) r.rows)) ≡ depjoined body r
  list_means r none =
      ap concatenated (rows_mean r.rows (none_right r.faults (union_over (λ a. (hold a).faults) r.rows) none))
      ∙ joined body r (none_left r.faults (union_over (λ a. (hold a).faults) r.rows) none)

-- a look-up among entries
module _ (hold : Row → HeldOut) (kid : CodeMeaning) (env : Scopes) (p : Row) (body : Row → Out) (each : (a : Row) → (hold a).faults ≡ no_faults → kid (hold a).held env p ≡ body a) (key : Row) where
  under_at : (a : Row) (keys : List Row) (b : Bool) → same_row key a ≡ b → (hold a).faults ≡ no_faults
      → child_under kid (map (entry hold) keys) key env p ≡ (if list_any (same_row key) keys then body key else nothing)
      → (if b then kid (hold a).held env p else child_under kid (map (entry hold) keys) key env p) ≡ (if b || list_any (same_row key) keys then body key else nothing)
  under_at a keys true is none rest = each a none ∙ ap body (sym (same_row-IsEqualityTest.only key a is))
  under_at a keys false is none rest = rest

  pub child_means : (keys : List Row) → union_over (λ a. (hold a).faults) keys ≡ no_faults → child_under kid (map (entry hold) keys) key env p ≡ (if list_any (same_row key) keys then body key else nothing)
  child_means [] none = refl
  child_means (a ∷ keys) none =
      let rest = child_means keys (none_right (hold a).faults (union_over (λ b. (hold b).faults) keys) none) in
      under_at a keys (same_row key a) refl (none_left (hold a).faults (union_over (λ b. (hold b).faults) keys) none) rest

-- a row is among the keys if it is among the rows
among_keys : (key : Row) (rows : List Row) → list_any (same_row key) (sorted row_lt (distinct same_row rows)) ≡ list_any (same_row key) rows
among_keys key rows = list_any-permutes (same_row key) (sorted_permutes row_lt (distinct same_row rows)) ∙ list_any-distinct same_row same_row-IsEqualityTest (same_row key) rows

found_at : (body : Row → Out) (r : Out) (key : Row) (b : Bool) → r.faults ≡ no_faults → (if b then body key else nothing) ≡ found body r key b
found_at body r key true none = λ i. record { rows = (body key).rows; faults = union (sym none i) (body key).faults }
found_at body r key false none = λ i. record { rows = []; faults = sym none i }

module _ (hold : Row → HeldOut) (kid : CodeMeaning) (env : Scopes) (p : Row) (body : Row → Out) (each : (a : Row) → (hold a).faults ≡ no_faults → kid (hold a).held env p ≡ body a) where
  pub hash_means : (r : Out) (looked : Result Row Faults) → union r.faults (union_over (λ a. (hold a).faults) (keys_of r).rows) ≡ no_faults
      → looked_up kid (map (entry hold) (keys_of r).rows) looked env p ≡ hashed body r looked
  hash_means r (Ok key) none =
      child_means hold kid env p body each key (keys_of r).rows (none_right r.faults (union_over (λ a. (hold a).faults) (keys_of r).rows) none)
      ∙ ap (λ b. if b then body key else nothing) (among_keys key r.rows)
      ∙ found_at body r key (list_any (same_row key) r.rows) (none_left r.faults (union_over (λ a. (hold a).faults) (keys_of r).rows) none)
  hash_means r (Err f) none = λ i. record { rows = []; faults = union (sym (none_left r.faults (union_over (λ a. (hold a).faults) (keys_of r).rows) none) i) f }

  within_at : (from to : Value → Bool) (a : Row) (keys : List Row) (b : Bool) → entries_within from to (map (entry hold) keys) ≡ map (entry hold) (filter (λ a. from (column a 0) && to (column a 0)) keys)
      → cond b (entry hold a ∷ entries_within from to (map (entry hold) keys)) (entries_within from to (map (entry hold) keys)) ≡ map (entry hold) (cond b (a ∷ filter (λ a. from (column a 0) && to (column a 0)) keys) (filter (λ a. from (column a 0) && to (column a 0)) keys))
  within_at from to a keys true rest = ap (λ es. entry hold a ∷ es) rest
  within_at from to a keys false rest = rest

  within_keys : (from to : Value → Bool) (keys : List Row) → entries_within from to (map (entry hold) keys) ≡ map (entry hold) (filter (λ a. from (column a 0) && to (column a 0)) keys)
  within_keys from to [] = refl
  within_keys from to (a ∷ keys) = within_at from to a keys (from (column a 0) && to (column a 0)) (within_keys from to keys)

  none_kept : (inside : Row → Bool) (a : Row) (keys : List Row) (b : Bool) → (hold a).faults ≡ no_faults → union_over (λ a. (hold a).faults) (filter inside keys) ≡ no_faults → union_over (λ a. (hold a).faults) (cond b (a ∷ filter inside keys) (filter inside keys)) ≡ no_faults
  none_kept inside a keys true first rest = (λ i. union (first i) (rest i))
  none_kept inside a keys false first rest = rest

  none_within : (inside : Row → Bool) (keys : List Row) → union_over (λ a. (hold a).faults) keys ≡ no_faults → union_over (λ a. (hold a).faults) (filter inside keys) ≡ no_faults
  none_within inside [] none = refl
  none_within inside (a ∷ keys) none =
      none_kept inside a keys (inside a) (none_left (hold a).faults (union_over (λ b. (hold b).faults) keys) none)
      (none_within inside keys (none_right (hold a).faults (union_over (λ b. (hold b).faults) keys) none))

  entries_mean : (keys : List Row) → union_over (λ a. (hold a).faults) keys ≡ no_faults → map (λ (e : Entry). kid e.kid env p) (map (entry hold) keys) ≡ map body keys
  entries_mean [] none = refl
  entries_mean (a ∷ keys) none =
      let first = each a (none_left (hold a).faults (union_over (λ b. (hold b).faults) keys) none) in
      let rest = entries_mean keys (none_right (hold a).faults (union_over (λ b. (hold b).faults) keys) none) in
      λ i. first i ∷ rest i

  pub ord_means : (r : Out) (from to : Result (Value → Bool) Faults) → union r.faults (union_over (λ a. (hold a).faults) (keys_of r).rows) ≡ no_faults
      → ranged_over kid (map (entry hold) (keys_of r).rows) from to env p ≡ ranged body r from to
  ord_means r (Ok from) (Ok to) none =
      let inside = λ (a : Row). from (column a 0) && to (column a 0) in
      let keys = (keys_of r).rows in
      let clean = none_within inside keys (none_right r.faults (union_over (λ a. (hold a).faults) keys) none) in
      ap (λ es. concatenated (map (λ (e : Entry). kid e.kid env p) es)) (within_keys from to keys)
      ∙ ap concatenated (entries_mean (filter inside keys) clean)
      ∙ joined body (record { rows = filter inside keys; faults = r.faults }) (none_left r.faults (union_over (λ a. (hold a).faults) keys) none)
      ∙ ap (λ rows. depjoined body (record { rows = rows; faults = r.faults })) (sorted-filter row_lt rows_order inside (distinct same_row r.rows))
  ord_means r (Ok from) (Err f) none = λ i. record { rows = []; faults = union (sym (none_left r.faults (union_over (λ a. (hold a).faults) (keys_of r).rows) none) i) f }
  ord_means r (Err f) (Ok to) none = λ i. record { rows = []; faults = union (sym (none_left r.faults (union_over (λ a. (hold a).faults) (keys_of r).rows) none) i) f }
  ord_means r (Err f) (Err g) none = λ i. record { rows = []; faults = union (sym (none_left r.faults (union_over (λ a. (hold a).faults) (keys_of r).rows) none) i) (union f g) }
