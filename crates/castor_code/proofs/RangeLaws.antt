-- Ints counted from the least of a range.
use Rattle.std.proofs.Common.{◌≡◌, ◌∙◌, ℕ, suc, ℤ, pos, negsuc, ◌+ℤ◌, ◌+◌, ◌-◌, ◌≤◌, ltb, true, ap, arith}
use Rattle.std.specs.Int.{int_gap}
use Rattle.std.proofs.lemmas.Bool.{ltb-true, ltb-false, not-true, cond-true, cond-false, cond_both, lt-ltb, le-ltb}
use Rattle.castor_code.specs.Pieces.{at_most_int}

pub counted_back : (lo z : ℤ) → at_most_int lo z ≡ true → lo +ℤ pos (int_gap lo z) ≡ z
counted_back (pos a) (pos b) le = let l = ltb-false b a (not-true _ le) in let same : a + (b - a) ≡ b = omega (arith, l) in ap pos same
counted_back (pos a) (negsuc b) le = absurd (cc)
counted_back (negsuc a) (pos b) le = let same : a + 1 + b - suc a ≡ b = omega arith in cond-false _ _ _ (le-ltb (a + 1 + b) (suc a) (omega arith)) ∙ ap pos same
counted_back (negsuc a) (negsuc b) le =
    let l = ltb-false a b (not-true _ le) in
    let same : suc a - suc (a - b) ≡ b = omega (arith, l) in
    cond-true _ _ _ (lt-ltb (a - b) (suc a) (omega arith)) ∙ ap negsuc same

pub counted_within : (lo z hi : ℤ) → at_most_int lo z ≡ true → at_most_int z hi ≡ true → int_gap lo z ≤ int_gap lo hi
counted_within (pos a) (pos b) (pos c) le up = let l = ltb-false c b (not-true _ up) in omega arith
counted_within (pos a) (pos b) (negsuc c) le up = absurd (cc)
counted_within (pos a) (negsuc b) (pos c) le up = absurd (cc)
counted_within (pos a) (negsuc b) (negsuc c) le up = absurd (cc)
counted_within (negsuc a) (pos b) (pos c) le up = let l = ltb-false c b (not-true _ up) in omega arith
counted_within (negsuc a) (pos b) (negsuc c) le up = absurd (cc)
counted_within (negsuc a) (negsuc b) (pos c) le up = omega arith
counted_within (negsuc a) (negsuc b) (negsuc c) le up = let l = ltb-false b c (not-true _ up) in omega arith

pub count_of : (lo : ℤ) (n : ℕ) → int_gap lo (lo +ℤ pos n) ≡ n
count_of (pos a) n = omega arith
count_of (negsuc a) n = cond_both (ltb n (suc a)) (negsuc (suc a - suc n)) (pos (n - suc a)) (λ z. int_gap (negsuc a) z ≡ n)
    (λ is. omega (arith, ltb-true n (suc a) is)) (λ is. omega (arith, ltb-false n (suc a) is))
