-- Look-ups in entries whose keys ascend.
use Rattle.std.proofs.Common.{◌≡◌, ◌∙◌, ◌==◌, ℕ, zero, suc, List, [], ◌∷◌, length, filter, take, drop, get_or, refl, sym, ap, subst, cond, Bool, true, false, not, Some, None, arith}
use Rattle.std.specs.List.{list_all}
use Rattle.std.specs.List.Sorted.{IsPartitionedBy}
use Rattle.std.specs.Ordering.{is_eq, is_ge, is_gt, is_le, is_lt, ordering_then}
use Rattle.std.specs.declared.cmp.Ordering.{Ordering}
use Rattle.std.specs.declared.cmp.Ordering.TheVariants.{Less, Equal, Greater}
use Rattle.std.proofs.lemmas.Bool.{and_parts, eqb-true, not-true, not_from_false}
use Rattle.std.proofs.lemmas.Cmp.{upto}
use Rattle.castor_val.specs.declared.row.Row.{Row}
use Rattle.castor_val.specs.declared.value.Value.{Value}
use Rattle.castor_val.specs.Values.{column, row_cmp, same_row, value_cmp, value_of}
use Rattle.castor_val.proofs.OrderLaws.{equal_from_same_row, row_order, value_order}
use Rattle.castor_alg.specs.declared.held.Entry.{Entry}
use Rattle.castor_alg.specs.Sorting.{row_lt}
use Rattle.castor_code.specs.Directories.{ascending, key_lt, rises}
use Rattle.castor_code.specs.LayoutMeaning.{entries_within}
use Rattle.castor_laws.proofs.DistinctLaws.{same_row-IsEqualityTest, test_sym}
use Rattle.castor_eval.specs.declared.limits.Limit.{Limit}
use Rattle.castor_eval.specs.declared.limits.Limit.TheVariants.{Any, Incl, Excl}
use Rattle.castor_reader.specs.Entries.{held_first, held_under, single_keys}
use Rattle.castor_eval.specs.Ranges.{above, below}
use Rattle.castor_reader.proofs.HalvingLaws.{Before, From, filter-both, front_passes, parted, rest_passes}

is_less : (o : Ordering) → is_lt o ≡ true → o ≡ Less
is_less Less h = refl
is_less Equal h = cc
is_less Greater h = cc

not_less : (o : Ordering) → o ≡ Less → is_lt o ≡ false → ⊥
not_less o e h = cc

lt_trans : (a b c : Row) → row_lt a b ≡ true → row_lt b c ≡ true → row_lt a c ≡ true
lt_trans a b c h k = ap is_lt (row_order.total.trans a b c (is_less (row_cmp a b) h) (is_less (row_cmp b c) k))

-- whether an entry stands before a key
abbrev pub stands_before : Row → Entry → Bool
stands_before key e = row_lt e.key key

all_good : (es : List Entry) → list_all (λ (e : Entry). true) es ≡ true
all_good [] = refl
all_good (e ∷ es) = all_good es

-- the entries before a key stand in front
pub before_parted : (key : Row) (es : List Entry) → ascending es ≡ true → IsPartitionedBy (stands_before key) es
before_parted key es h = parted key_lt (λ e. true) (stands_before key) (λ x y g k less t. lt_trans x.key y.key key less t) es (all_good es) h

turned : (key : Row) (e : Entry) → is_eq (row_cmp e.key key) ≡ same_row key e.key
turned key e = test_sym same_row same_row-IsEqualityTest e.key key

skip : (o : Ordering) → is_lt o ≡ true → is_eq o ≡ false
skip Less h = refl
skip Equal h = cc
skip Greater h = cc

none_after : (key : Row) (e : Entry) (es : List Entry) → list_all (key_lt e) es ≡ true → row_lt e.key key ≡ false → held_under es key ≡ None
none_after key e [] r h = refl
none_after key e (f ∷ es) r h =
    let (less, rest) = and_parts (key_lt e f) (list_all (key_lt e) es) r in
    step (same_row key f.key) refl less (none_after key e es rest h)
  where
    step : (b : Bool) → same_row key f.key ≡ b → key_lt e f ≡ true → held_under es key ≡ None → cond (same_row key f.key) (Some f.kid) (held_under es key) ≡ None
    step true s less rest = absurd (not_less (row_cmp e.key key) (is_less (row_cmp e.key key) (subst (λ (k : Row). row_lt e.key k ≡ true) (sym (equal_from_same_row key f.key s)) less)) h)
    step false s less rest = ap (λ c. cond c (Some f.kid) (held_under es key)) s ∙ rest

-- what is held under a key is held by the first entry that doesn't stand before it, if by any
pub found_first : (key : Row) (es : List Entry) (n : ℕ) → ascending es ≡ true → Before (stands_before key) true es n → From (stands_before key) false es n → held_under es key ≡ held_first (drop n es) key
found_first key [] zero r b f = refl
found_first key [] (suc n) r b f = refl
found_first key (e ∷ es) zero r b f =
    let (less, rest) = and_parts (list_all (key_lt e) es) (rises key_lt es) r in
    let none = none_after key e es less (f zero e (omega arith) (omega arith)) in
    ap (λ c. cond c (Some e.kid) (held_under es key)) (sym (turned key e)) ∙ ap (cond (is_eq (row_cmp e.key key)) (Some e.kid)) none
found_first key (e ∷ es) (suc n) r b f =
    let (less, rest) = and_parts (list_all (key_lt e) es) (rises key_lt es) r in
    let here = skip (row_cmp e.key key) (b zero e (omega arith) (omega arith)) in
    ap (λ c. cond c (Some e.kid) (held_under es key)) (sym (turned key e) ∙ here)
    ∙ found_first key es n rest (λ k d l m. b (suc k) d (omega (arith, l)) (omega (arith, m))) (λ k d l m. f (suc k) d (omega (arith, l)) (omega (arith, m)))

-- keys of one value are ordered by it
then_equal : (o : Ordering) → is_lt (ordering_then o Equal) ≡ true → o ≡ Less
then_equal Less h = refl
then_equal Equal h = cc
then_equal Greater h = cc

first_less : (a b : Row) → (length a == 1) ≡ true → (length b == 1) ≡ true → row_lt a b ≡ true → value_cmp (column a 0) (column b 0) ≡ Less
first_less [] b g h l = absurd (let e = eqb-true 0 1 g in omega (arith, e))
first_less (v ∷ []) [] g h l = absurd (let e = eqb-true 0 1 h in omega (arith, e))
first_less (v ∷ []) (w ∷ []) g h l = then_equal (value_cmp v w) l
first_less (v ∷ []) (w ∷ x ∷ ws) g h l = absurd (let e = eqb-true (length (w ∷ x ∷ ws)) 1 h in omega (arith, e))
first_less (v ∷ u ∷ vs) b g h l = absurd (let e = eqb-true (length (v ∷ u ∷ vs)) 1 g in omega (arith, e))

-- a value below one that a lower limit keeps out is kept out
ge_at : (v w l : Value) → value_cmp v w ≡ Less → (o : Ordering) → value_cmp w l ≡ o → is_ge o ≡ false → is_ge (value_cmp v l) ≡ false
ge_at v w l e Less h k = ap is_ge (value_order.total.trans v w l e h)
ge_at v w l e Equal h k = cc
ge_at v w l e Greater h k = cc

above_falls : (from : Limit) (v w : Value) → value_cmp v w ≡ Less → above from w ≡ false → above from v ≡ false
above_falls Any v w e h = h
above_falls (Incl l) v w e h = ge_at v w (value_of l) e (value_cmp w (value_of l)) refl h
above_falls (Excl l) v w e h = upto value_order.total v w (value_of l) (ap is_gt e) h

not_gt : (o : Ordering) → is_le o ≡ not (is_gt o)
not_gt Less = refl
not_gt Equal = refl
not_gt Greater = refl

-- a value below one that an upper limit lets in is let in
below_falls : (to : Limit) (v w : Value) → value_cmp v w ≡ Less → below to w ≡ true → below to v ≡ true
below_falls Any v w e h = h
below_falls (Incl l) v w e h =
    let gone = not-true (is_gt (value_cmp w (value_of l))) (sym (not_gt (value_cmp w (value_of l))) ∙ h) in
    not_gt (value_cmp v (value_of l)) ∙ not_from_false (is_gt (value_cmp v (value_of l))) (upto value_order.total v w (value_of l) (ap is_gt e) gone)
below_falls (Excl l) v w e h = ap is_lt (value_order.total.trans v w (value_of l) e (is_less (value_cmp w (value_of l)) h))

-- whether the first value of a key is under a lower limit, and whether an upper limit lets it in
abbrev pub stands_under : Limit → Entry → Bool
stands_under from e = not (above from (column e.key 0))

abbrev pub stands_within : Limit → Entry → Bool
stands_within to e = below to (column e.key 0)

pub under_parted : (from : Limit) (es : List Entry) → single_keys es ≡ true → ascending es ≡ true → IsPartitionedBy (stands_under from) es
under_parted from es g h =
    parted key_lt (λ e. length e.key == 1) (stands_under from)
    (λ x y a b less t. not_from_false (above from (column x.key 0)) (above_falls from (column x.key 0) (column y.key 0) (first_less x.key y.key a b less) (not-true (above from (column y.key 0)) t))) es g h

pub within_parted : (to : Limit) (es : List Entry) → single_keys es ≡ true → ascending es ≡ true → IsPartitionedBy (stands_within to) es
within_parted to es g h =
    parted key_lt (λ e. length e.key == 1) (stands_within to)
    (λ x y a b less t. below_falls to (column x.key 0) (column y.key 0) (first_less x.key y.key a b less) t) es g h

not_not : (b : Bool) → not b ≡ false → b ≡ true
not_not true h = refl
not_not false h = cc

-- the entries between two places are those within both limits
pub between_within : (from to : Limit) (es : List Entry) (n m : ℕ) → Before (stands_under from) true es n → From (stands_under from) false es n → Before (stands_within to) true es m → From (stands_within to) false es m
    → drop n (take m es) ≡ entries_within (above from) (below to) es
between_within from to es n m b f c g =
    let over : Entry → Bool = λ e. above from (column e.key 0) in
    let low : Before over false es n = λ k d l o. not-true (over (get_or es k d)) (b k d l o) in
    let high : From over true es n = λ k d l o. not_not (over (get_or es k d)) (f k d l o) in
    sym (rest_passes over es n m low high)
    ∙ ap (filter over) (sym (front_passes (stands_within to) es m c g))
    ∙ sym (filter-both over (stands_within to) es)
