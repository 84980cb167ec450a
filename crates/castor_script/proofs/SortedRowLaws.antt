-- Rows in order by keys: what sorts, drops rows or takes fewer keys keeps them so.
use Rattle.std.proofs.Common.{◌≡◌, ◌∙◌, List, [], ◌∷◌, ◌++◌, filter, refl, ap, cond, Bool, true, false, not}
use Rattle.std.specs.Ordering.{is_lt, ordering_then}
use Rattle.std.specs.declared.cmp.Ordering.{Ordering}
use Rattle.std.specs.declared.cmp.Ordering.TheVariants.{Less, Equal, Greater}
use Rattle.castor_val.specs.declared.row.Row.{Row}
use Rattle.castor_alg.specs.declared.out.Out.{Out}
use Rattle.castor_alg.specs.declared.rel.Key.{Key}
use Rattle.castor_alg.specs.Distinct.{distinct}
use Rattle.castor_alg.specs.Sorting.{by_key, by_keys, inserted, sorted, sorted_by}
use Rattle.castor_laws.proofs.SortingLaws.{Above, Up, also, done, empty, keys_order, next, up_sorted}
use Rattle.castor_laws.proofs.EachLaws.{All_from_each, Each, none, one}
use Rattle.castor_script.specs.InOrder.{AreInOrder, IsSortedBy}

-- the first row comes before the second by the keys
abbrev pub precedes : List Key → Row → Row → Bool
precedes ks a b = is_lt (by_keys ks a b)

-- no row of these comes before a
pub data Behind (ks : List Key) (a : Row) : List Row → Type 0 where
  none_behind : Behind ks a []
  also_behind : {b : Row} {rows : List Row} → precedes ks b a ≡ false → Behind ks a rows → Behind ks a (b ∷ rows)

-- no row comes before one that it stands behind
pub data Ordered (ks : List Key) : List Row → Type 0 where
  no_row : Ordered ks []
  next_row : {a : Row} {rows : List Row} → Behind ks a rows → Ordered ks rows → Ordered ks (a ∷ rows)

module _ (ks : List Key) where
  behind_above : (a : Row) {rows : List Row} → Above (precedes ks) (keys_order ks) a rows → Behind ks a rows
  behind_above a empty = none_behind
  behind_above a (also l u) = also_behind l (behind_above a u)

  ordered_up : {rows : List Row} → Up (precedes ks) (keys_order ks) rows → Ordered ks rows
  ordered_up done = no_row
  ordered_up (next {a} u t) = next_row (behind_above a u) (ordered_up t)

  pub sorted_ordered : (rows : List Row) → Ordered ks (sorted (precedes ks) rows)
  sorted_ordered rows = ordered_up (up_sorted (precedes ks) (keys_order ks) rows)

  behind_kept : (a b : Row) (rows : List Row) (t : Bool) → precedes ks b a ≡ false → Behind ks a rows → Behind ks a (cond t (b ∷ rows) rows)
  behind_kept a b rows true l u = also_behind l u
  behind_kept a b rows false l u = u

  behind_filter : (p : Row → Bool) (a : Row) {rows : List Row} → Behind ks a rows → Behind ks a (filter p rows)
  behind_filter p a none_behind = none_behind
  behind_filter p a (also_behind {b} {rows} l u) = behind_kept a b (filter p rows) (p b) l (behind_filter p a u)

  ordered_kept : (a : Row) (rows : List Row) (t : Bool) → Behind ks a rows → Ordered ks rows → Ordered ks (cond t (a ∷ rows) rows)
  ordered_kept a rows true u o = next_row u o
  ordered_kept a rows false u o = o

  pub ordered_filter : (p : Row → Bool) {rows : List Row} → Ordered ks rows → Ordered ks (filter p rows)
  ordered_filter p no_row = no_row
  ordered_filter p (next_row {a} {rows} u o) = ordered_kept a (filter p rows) (p a) (behind_filter p a u) (ordered_filter p o)

  behind_distinct : (same : Row → Row → Bool) (a : Row) {rows : List Row} → Behind ks a rows → Behind ks a (distinct same rows)
  behind_distinct same a none_behind = none_behind
  behind_distinct same a (also_behind {b} {rows} l u) = also_behind l (behind_filter (λ c. not (same b c)) a (behind_distinct same a u))

  pub ordered_distinct : (same : Row → Row → Bool) {rows : List Row} → Ordered ks rows → Ordered ks (distinct same rows)
  ordered_distinct same no_row = no_row
  ordered_distinct same (next_row {a} {rows} u o) = next_row (behind_filter (λ c. not (same a c)) a (behind_distinct same a u)) (ordered_filter (λ c. not (same a c)) (ordered_distinct same o))

  each_behind : (a : Row) {rows : List Row} → Behind ks a rows → Each (λ b. precedes ks b a ≡ false) rows
  each_behind a none_behind = none
  each_behind a (also_behind l u) = one l (each_behind a u)

  in_order : {rows : List Row} → Ordered ks rows → AreInOrder ks rows
  in_order no_row = tt
  in_order (next_row {a} {rows} u o) = (All_from_each (λ b. precedes ks b a ≡ false) rows (each_behind a u), in_order o)

  inserted_in_front : (a : Row) {rows : List Row} → Behind ks a rows → inserted (precedes ks) a rows ≡ a ∷ rows
  inserted_in_front a none_behind = refl
  inserted_in_front a (also_behind {b} {rows} l u) = ap (λ t. cond t (b ∷ inserted (precedes ks) a rows) (a ∷ b ∷ rows)) l

  stays : {rows : List Row} → Ordered ks rows → sorted (precedes ks) rows ≡ rows
  stays no_row = refl
  stays (next_row {a} {rows} u o) = ap (inserted (precedes ks) a) (stays o) ∙ inserted_in_front a u

  pub sorted_from_ordered : (r : Out) → Ordered ks r.rows → IsSortedBy ks r
  sorted_from_ordered r o = record { order = in_order o; stable = λ i. record { rows = stays o i; faults = r.faults } }

-- without a key no row comes before another
none_without_keys : (a : Row) (rows : List Row) → Behind [] a rows
none_without_keys a [] = none_behind
none_without_keys a (b ∷ rows) = also_behind refl (none_without_keys a rows)

pub ordered_without_keys : (rows : List Row) → Ordered [] rows
ordered_without_keys [] = no_row
ordered_without_keys (a ∷ rows) = next_row (none_without_keys a rows) (ordered_without_keys rows)

-- where the first key decides, it does so with other keys behind it too
pub same_first : (first these those : Ordering) → is_lt (ordering_then first these) ≡ false → (is_lt these ≡ false → is_lt those ≡ false) → is_lt (ordering_then first those) ≡ false
same_first Less these those h k = h
same_first Equal these those h k = k h
same_first Greater these those h k = refl

not_by_fewer : (front rest : List Key) (a b : Row) → precedes (front ++ rest) b a ≡ false → precedes front b a ≡ false
not_by_fewer [] rest a b h = refl
not_by_fewer (k ∷ front) rest a b h = same_first (by_key k b a) (by_keys (front ++ rest) b a) (by_keys front b a) h (not_by_fewer front rest a b)

behind_by_fewer : (front rest : List Key) (a : Row) {rows : List Row} → Behind (front ++ rest) a rows → Behind front a rows
behind_by_fewer front rest a none_behind = none_behind
behind_by_fewer front rest a (also_behind {b} l u) = also_behind (not_by_fewer front rest a b l) (behind_by_fewer front rest a u)

-- rows in order by keys are so by a front part of them
pub ordered_by_fewer : (front rest : List Key) {rows : List Row} → Ordered (front ++ rest) rows → Ordered front rows
ordered_by_fewer front rest no_row = no_row
ordered_by_fewer front rest (next_row {a} u o) = next_row (behind_by_fewer front rest a u) (ordered_by_fewer front rest o)
