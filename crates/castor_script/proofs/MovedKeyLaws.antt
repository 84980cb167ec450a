-- Rows in order by keys, made into rows that keep the keys' values in other columns.
use Rattle.std.proofs.Common.{◌≡◌, ◌∙◌, ℕ, List, [], ◌∷◌, ◌++◌, refl, ap, cond, false, Option, Some, None, Result, Ok, Err}
use Rattle.std.specs.List.{flat_map}
use Rattle.std.specs.Ordering.{is_lt, ordering_then}
use Rattle.castor_val.specs.declared.fault.Faults.{Faults}
use Rattle.castor_val.specs.declared.row.Row.{Row}
use Rattle.castor_val.specs.Values.{column, value_cmp}
use Rattle.castor_alg.specs.declared.rel.Key.{Key}
use Rattle.castor_alg.specs.Rows.{row_in}
use Rattle.castor_alg.specs.Sorting.{by_key, by_keys}
use Rattle.castor_script.specs.KnownKeys.{front_key, moved}
use Rattle.castor_script.proofs.SortedRowLaws.{Behind, Ordered, also_behind, next_row, no_row, none_behind, precedes, same_first}

-- the column of each place has the value of the column that it is the place of
abbrev pub HasMoved : (ℕ → Option ℕ) → Row → Row → Type 0
HasMoved place a made = (c at : ℕ) → place c ≡ Some at → column made at ≡ column a c

module _ (place : ℕ → Option ℕ) where
  same_key : (k : Key) (at : ℕ) (a made b other : Row) → HasMoved place a made → HasMoved place b other → place k.col ≡ Some at → by_key (record { col = at; desc = k.desc }) other made ≡ by_key k b a
  same_key k at a made b other x y is = λ i. cond k.desc (value_cmp (x k.col at is i) (y k.col at is i)) (value_cmp (y k.col at is i) (x k.col at is i))

  not_by_front : (k : Key) (ks : List Key) (a made b other : Row) → HasMoved place a made → HasMoved place b other → (o : Option ℕ) → place k.col ≡ o
      → precedes (k ∷ ks) b a ≡ false → (precedes ks b a ≡ false → precedes (moved place ks) other made ≡ false) → precedes (front_key o k.desc (moved place ks)) other made ≡ false
  not_by_front k ks a made b other x y None is h rest = refl
  not_by_front k ks a made b other x y (Some at) is h rest =
      ap (λ o. is_lt (ordering_then o (by_keys (moved place ks) other made))) (same_key k at a made b other x y is)
      ∙ same_first (by_key k b a) (by_keys ks b a) (by_keys (moved place ks) other made) h rest

  not_by_moved : (ks : List Key) (a made b other : Row) → HasMoved place a made → HasMoved place b other → precedes ks b a ≡ false → precedes (moved place ks) other made ≡ false
  not_by_moved [] a made b other x y h = refl
  not_by_moved (k ∷ ks) a made b other x y h = not_by_front k ks a made b other x y (place k.col) refl h (not_by_moved ks a made b other x y)

  module _ (ks : List Key) (make : Row → Result Row Faults) (moves : (a made : Row) → make a ≡ Ok made → HasMoved place a made) where
    behind_front : (a made b : Row) → HasMoved place a made → precedes ks b a ≡ false → (answer : Result Row Faults) → make b ≡ answer → {rows : List Row} → Behind (moved place ks) made rows → Behind (moved place ks) made (row_in answer ++ rows)
    behind_front a made b x h (Ok other) is u = also_behind (not_by_moved ks a made b other x (moves b other is) h) u
    behind_front a made b x h (Err f) is u = u

    behind_made : (a made : Row) → HasMoved place a made → {rows : List Row} → Behind ks a rows → Behind (moved place ks) made (flat_map (λ b. row_in (make b)) rows)
    behind_made a made x none_behind = none_behind
    behind_made a made x (also_behind {b} h u) = behind_front a made b x h (make b) refl (behind_made a made x u)

    ordered_front : (a : Row) (rows : List Row) → Behind ks a rows → (answer : Result Row Faults) → make a ≡ answer → Ordered (moved place ks) (flat_map (λ b. row_in (make b)) rows) → Ordered (moved place ks) (row_in answer ++ flat_map (λ b. row_in (make b)) rows)
    ordered_front a rows u (Ok made) is o = next_row (behind_made a made (moves a made is) u) o
    ordered_front a rows u (Err f) is o = o

    -- what is made of rows in order is in order by the moved keys
    pub ordered_made : {rows : List Row} → Ordered ks rows → Ordered (moved place ks) (flat_map (λ b. row_in (make b)) rows)
    ordered_made no_row = no_row
    ordered_made (next_row {a} {rows} u o) = ordered_front a rows u (make a) refl (ordered_made o)
