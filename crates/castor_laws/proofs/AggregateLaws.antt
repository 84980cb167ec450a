-- Aggregates of permuted rows.
use Rattle.std.proofs.Common.{◌≡◌, ◌∙◌, ℕ, ℤ, pos, ◌+ℤ◌, ◌^◌, ◌-◌, min, List, [], ◌∷◌, fold, refl, sym, ap, subst, cond, Bool, true, false, Ok, arith}
use Rattle.std.proofs.lemmas.Int.{ints}
use Rattle.std.proofs.lemmas.Cmp.{back_total}
use Rattle.std.specs.Ordering.{is_lt, is_gt, ordering_reverse}
use Rattle.std.specs.Cmp.{IsTotalOrder}
use Rattle.std.specs.declared.cmp.Ordering.{Ordering}
use Rattle.std.specs.declared.cmp.Ordering.TheVariants.{Less, Equal, Greater}
use Rattle.castor_val.specs.declared.row.Row.{Row}
use Rattle.castor_val.specs.declared.value.Value.{Value}
use Rattle.castor_val.specs.declared.value.Value.TheVariants.{Int}
use Rattle.castor_val.specs.Values.{column, value_cmp}
use Rattle.castor_val.proofs.OrderLaws.{value_order, values_tied}
use Rattle.castor_alg.specs.declared.rel.Agg.{Agg}
use Rattle.castor_alg.specs.declared.rel.Agg.TheVariants.{Count, Sum, Min, Max}
use Rattle.castor_alg.specs.Expression.{put_front, whole}
use Rattle.castor_alg.specs.Groups.{aggregate, aggregates, best, greater, int_in, lesser, total}
use Rattle.castor_alg.specs.Permutation.{Permutes, nil, skip, swap, trans}
use Rattle.castor_laws.proofs.PermutationLaws.{fold-permutes, length-permutes, map_permutes}

sums_exchange : (a x y : ℤ) → (a +ℤ x) +ℤ y ≡ (a +ℤ y) +ℤ x
sums_exchange a x y = omega (arith, ints)

total-permutes : (at : ℕ) {xs ys : List Row} → Permutes xs ys → total at xs ≡ total at ys
total-permutes at p = fold-permutes (λ sum row. sum +ℤ int_in (column row at)) (λ a x y. sums_exchange a (int_in (column x at)) (int_in (column y at))) p (pos 0)

-- the best of permuted values, by a choice that is commutative and associative
module _ (f : Value → Value → Value) (comm : (a b : Value) → f a b ≡ f b a) (assoc : (a b c : Value) → f (f a b) c ≡ f a (f b c)) where
  choices_exchange : (a x y : Value) → f (f a x) y ≡ f (f a y) x
  choices_exchange a x y = assoc a x y ∙ ap (f a) (comm x y) ∙ sym (assoc a y x)

  pub best-permutes : {xs ys : List Value} → Permutes xs ys → best f xs ≡ best f ys
  best-permutes nil = refl
  best-permutes (skip {x} p) = ap Ok (fold-permutes f choices_exchange p x)
  best-permutes (swap {x} {y} {xs}) = ap (λ b. Ok (fold f b xs)) (comm x y)
  best-permutes (trans p q) = best-permutes p ∙ best-permutes q

-- the lesser of two values by an order that ties equal values alone
module _ (cmp : Value → Value → Ordering) (total_order : IsTotalOrder cmp) (ties : (a b : Value) → cmp a b ≡ Equal → a ≡ b) where
  data Ranked (a b : Value) : Type 0 where
    below : cmp a b ≡ Less → cmp b a ≡ Greater → Ranked a b
    tied : a ≡ b → Ranked a b
    above : cmp a b ≡ Greater → cmp b a ≡ Less → Ranked a b

  ranked_at : (a b : Value) (order : Ordering) → cmp a b ≡ order → Ranked a b
  ranked_at a b Less is = below is (total_order.antisymm b a ∙ ap ordering_reverse is)
  ranked_at a b Equal is = tied (ties a b is)
  ranked_at a b Greater is = above is (total_order.antisymm b a ∙ ap ordering_reverse is)

  ranked : (a b : Value) → Ranked a b
  ranked a b = ranked_at a b (cmp a b) refl

  abbrev first : Value → Value → Value
  first a b = cond (is_lt (cmp b a)) b a

  left_is : (a b : Value) → cmp b a ≡ Greater → first a b ≡ a
  left_is a b is = ap (λ order. cond (is_lt order) b a) is

  right_is : (a b : Value) → cmp b a ≡ Less → first a b ≡ b
  right_is a b is = ap (λ order. cond (is_lt order) b a) is

  alone : (a : Value) (b : Bool) → cond b a a ≡ a
  alone a true = refl
  alone a false = refl

  comm_at : (a b : Value) → Ranked a b → first a b ≡ first b a
  comm_at a b (below h k) = left_is a b k ∙ sym (right_is b a h)
  comm_at a b (tied is) = subst (λ c. first a c ≡ first c a) is refl
  comm_at a b (above h k) = right_is a b k ∙ sym (left_is b a h)

  pub first_comm : (a b : Value) → first a b ≡ first b a
  first_comm a b = comm_at a b (ranked a b)

  twice_at : (a c : Value) → Ranked a c → first a (first a c) ≡ first a c
  twice_at a c (below h k) = ap (first a) (left_is a c k) ∙ alone a _ ∙ sym (left_is a c k)
  twice_at a c (tied is) = subst (λ d. first a (first a d) ≡ first a d) is (ap (first a) (alone a _))
  twice_at a c (above h k) = ap (first a) (right_is a c k)

  reversed : (a b : Value) → cmp a b ≡ Less → cmp b a ≡ Greater
  reversed a b is = total_order.antisymm b a ∙ ap ordering_reverse is

  assoc_at : (a b c : Value) → Ranked a b → Ranked b c → first (first a b) c ≡ first a (first b c)
  assoc_at a b c (below h k) (below m n) = ap (λ x. first x c) (left_is a b k) ∙ left_is a c (reversed a c (total_order.trans a b c h m)) ∙ sym (ap (first a) (left_is b c n) ∙ left_is a b k)
  assoc_at a b c (below h k) (tied is) = subst (λ d. first (first a b) d ≡ first a (first b d)) is (ap (λ x. first x b) (left_is a b k) ∙ sym (ap (first a) (alone b _)))
  assoc_at a b c (below h k) (above m n) = ap (λ x. first x c) (left_is a b k) ∙ sym (ap (first a) (right_is b c n))
  assoc_at a b c (tied is) s = subst (λ d. first (first a d) c ≡ first a (first d c)) is (ap (λ x. first x c) (alone a _) ∙ sym (twice_at a c (ranked a c)))
  assoc_at a b c (above h k) (below m n) = ap (λ x. first x c) (right_is a b k) ∙ left_is b c n ∙ sym (ap (first a) (left_is b c n) ∙ right_is a b k)
  assoc_at a b c (above h k) (tied is) = subst (λ d. first (first a b) d ≡ first a (first b d)) is (ap (λ x. first x b) (right_is a b k) ∙ alone b _ ∙ sym (ap (first a) (alone b _) ∙ right_is a b k))
  assoc_at a b c (above h k) (above m n) = ap (λ x. first x c) (right_is a b k) ∙ right_is b c n ∙ sym (ap (first a) (right_is b c n) ∙ right_is a c (total_order.trans c b a n k))

  pub first_assoc : (a b c : Value) → first (first a b) c ≡ first a (first b c)
  first_assoc a b c = assoc_at a b c (ranked a b) (ranked b c)

lesser-permutes : {xs ys : List Value} → Permutes xs ys → best lesser xs ≡ best lesser ys
lesser-permutes = best-permutes lesser (first_comm value_cmp value_order.total values_tied) (first_assoc value_cmp value_order.total values_tied)

-- the greater of two values is the lesser by the order turned round
turned : (order : Ordering) → is_lt (ordering_reverse order) ≡ is_gt order
turned Less = refl
turned Equal = refl
turned Greater = refl

abbrev turned_cmp : Value → Value → Ordering
turned_cmp a b = value_cmp b a

turned_tied : (a b : Value) → value_cmp b a ≡ Equal → a ≡ b
turned_tied a b is = sym (values_tied b a is)

abbrev first_turned : Value → Value → Value
first_turned a b = cond (is_lt (value_cmp a b)) b a

turned_is : (a b : Value) → first_turned a b ≡ greater a b
turned_is a b = ap (λ order. cond (is_lt order) b a) (value_order.total.antisymm a b) ∙ ap (λ t. cond t b a) (turned (value_cmp b a))

turned_is_greater : first_turned ≡ greater
turned_is_greater = λ i a b. turned_is a b i

greater-permutes : {xs ys : List Value} → Permutes xs ys → best greater xs ≡ best greater ys
greater-permutes {xs} {ys} p = subst (λ f. best f xs ≡ best f ys) turned_is_greater (best-permutes first_turned (first_comm turned_cmp (back_total value_order.total) turned_tied) (first_assoc turned_cmp (back_total value_order.total) turned_tied) p)

pub aggregate-permutes : (a : Agg) {xs ys : List Row} → Permutes xs ys → aggregate a xs ≡ aggregate a ys
aggregate-permutes Count p = ap (λ n. Ok (Int (pos (min n (2 ^ 63 - 1))))) (length-permutes p)
aggregate-permutes (Sum at) p = ap whole (total-permutes at p)
aggregate-permutes (Min at) p = lesser-permutes (map_permutes (λ row. column row at) p)
aggregate-permutes (Max at) p = greater-permutes (map_permutes (λ row. column row at) p)

pub aggregates-permutes : (aggs : List Agg) {xs ys : List Row} → Permutes xs ys → aggregates aggs xs ≡ aggregates aggs ys
aggregates-permutes [] p = refl
aggregates-permutes (a ∷ aggs) p = λ i. put_front (aggregate-permutes a p i) (aggregates-permutes aggs p i)
