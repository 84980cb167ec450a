-- Groupings that can't fault.
use Rattle.std.proofs.Common.{◌≡◌, ℕ, refl, sym, ap, subst, List, [], ◌∷◌, map, filter, cond, Bool, true, false, not, ◌||◌, Result}
use Rattle.std.specs.List.{list_all, list_any}
use Rattle.std.proofs.lemmas.Bool.{and_parts, or_right}
use Rattle.castor_val.specs.declared.fault.Faults.{Faults}
use Rattle.castor_val.specs.declared.row.Row.{Row}
use Rattle.castor_val.specs.Values.{same_row}
use Rattle.castor_val.proofs.OrderLaws.{same_row-refl}
use Rattle.castor_alg.specs.declared.rel.Agg.{Agg}
use Rattle.castor_alg.specs.declared.rel.Agg.TheVariants.{Count, Sum, Min, Max}
use Rattle.castor_alg.specs.Distinct.{distinct}
use Rattle.castor_alg.specs.Groups.{aggregate, aggregates, behind_key, group_keys, group_row, key_of}
use Rattle.castor_alg.specs.Totality.{is_count, is_sum, is_total_group}
use Rattle.castor_laws.specs.Faultless.{HasValue}
use Rattle.castor_laws.proofs.EachLaws.{Each, none, one, each_weaker, each_map, each_distinct}
use Rattle.castor_laws.proofs.TotalExprLaws.{put_front_value}

clash : {P : Type 0} → true ≡ false → P
clash is = cc

counted : (a : Agg) → is_count a ≡ true → (rows : List Row) → HasValue (aggregate a rows)
counted Count is rows = (_, refl)
counted (Sum at) is rows = clash (sym is)
counted (Min at) is rows = clash (sym is)
counted (Max at) is rows = clash (sym is)

-- counts have values over any rows
counts : (aggs : List Agg) → list_all is_count aggs ≡ true → (rows : List Row) → HasValue (aggregates aggs rows)
counts [] total rows = ([], refl)
counts (a ∷ aggs) total rows =
    let parts = and_parts (is_count a) (list_all is_count aggs) total in
    put_front_value _ _ (counted a parts.0 rows) (counts aggs parts.1 rows)

unsummed : (a : Agg) → not (is_sum a) ≡ true → (row : Row) (rows : List Row) → HasValue (aggregate a (row ∷ rows))
unsummed Count is row rows = (_, refl)
unsummed (Sum at) is row rows = clash (sym is)
unsummed (Min at) is row rows = (_, refl)
unsummed (Max at) is row rows = (_, refl)

-- all but sums have values over a row or more
pub but_sums : (aggs : List Agg) → list_all (λ a. not (is_sum a)) aggs ≡ true → (row : Row) (rows : List Row) → HasValue (aggregates aggs (row ∷ rows))
but_sums [] total row rows = ([], refl)
but_sums (a ∷ aggs) total row rows =
    let parts = and_parts (not (is_sum a)) (list_all (λ a. not (is_sum a)) aggs) total in
    put_front_value _ _ (unsummed a parts.0 row rows) (but_sums aggs parts.1 row rows)

-- a list that has an element that passes is filtered to a row or more
pub passing : {X : Type 0} (p : X → Bool) (xs : List X) → list_any p xs ≡ true → (x : X) × (rest : List X) × (filter p xs ≡ x ∷ rest)
passing p [] some = clash (sym some)
passing p (x ∷ xs) some = passing_at p x xs (p x) some (passing p xs)
  where
    passing_at : {X : Type 0} (p : X → Bool) (x : X) (xs : List X) (b : Bool) → (b || list_any p xs) ≡ true → (list_any p xs ≡ true → (y : X) × (rest : List X) × (filter p xs ≡ y ∷ rest)) → (y : X) × (rest : List X) × (cond b (x ∷ filter p xs) (filter p xs) ≡ y ∷ rest)
    passing_at p x xs true some rest = (x, filter p xs, refl)
    passing_at p x xs false some rest = rest some

module _ (ks : List ℕ) where
  -- the rows have the key
  abbrev pub Occurs : List Row → Row → Type 0
  Occurs rows key = list_any (λ row. same_row (key_of ks row) key) rows ≡ true

  own_keys : (rows : List Row) → Each (λ row. Occurs rows (key_of ks row)) rows
  own_keys [] = none
  own_keys (row ∷ rows) = one (ap (λ b. b || list_any (λ other. same_row (key_of ks other) (key_of ks row)) rows) (same_row-refl (key_of ks row)))
      (each_weaker _ _ (λ other is. or_right _ _ is) (own_keys rows))

  -- each key of the groups has a row
  pub keys_occur : (rows : List Row) → Each (Occurs rows) (distinct same_row (map (key_of ks) rows))
  keys_occur rows = each_distinct (Occurs rows) same_row (each_map (Occurs rows) (key_of ks) (own_keys rows))

behind : (key : Row) (r : Result Row Faults) → HasValue r → HasValue (behind_key key r)
behind key r (row, is) = rw is (_, refl)

unsummed_row : (k : ℕ) (ks : List ℕ) (aggs : List Agg) (rows : List Row) → list_all (λ a. not (is_sum a)) aggs ≡ true → (key : Row) → list_any (λ row. same_row (key_of (k ∷ ks) row) key) rows ≡ true → HasValue (group_row (k ∷ ks) aggs rows key)
unsummed_row k ks aggs rows total key occurs =
    let found = passing (λ row. same_row (key_of (k ∷ ks) row) key) rows occurs in
    behind key _ (subst (λ group. HasValue (aggregates aggs group)) (sym found.2) (but_sums aggs total found.0 found.1))

-- each group has a row
pub groups_have_rows : (ks : List ℕ) (aggs : List Agg) (rows : List Row) → is_total_group ks aggs ≡ true → Each (λ key. HasValue (group_row ks aggs rows key)) (group_keys ks rows)
groups_have_rows [] aggs rows total = one (behind [] _ (counts aggs total _)) none
groups_have_rows (k ∷ ks) aggs rows total = each_weaker _ _ (λ key occurs. unsummed_row k ks aggs rows total key occurs) (keys_occur (k ∷ ks) rows)
