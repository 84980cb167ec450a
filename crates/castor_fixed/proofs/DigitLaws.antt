-- The digits that are counted are the fewest that serve.
use Rattle.std.proofs.Common.{◌≡◌, ℕ, zero, suc, ◌+◌, ◌*◌, ◌/◌, ◌^◌, ◌<◌, ◌≤◌, ap, refl, arith}
use Rattle.std.proofs.Math.Nat.{div-lt_iff_lt-mul, div-lt_self, pow-suc, pow-zero}
use Rattle.castor_fixed.specs.Digits.{digits, digit_count, IsFewestDigits}

-- as many divisions as the number find all digits
digits_enough : (base : ℕ) → 1 < base → (j k n : ℕ) → n ≤ j → n ≤ k → digits base j n ≡ digits base k n
digits_enough base more zero zero n in_j in_k = refl
digits_enough base more zero (suc k) zero in_j in_k = refl
digits_enough base more zero (suc k) (suc n) in_j in_k = absurd (omega arith)
digits_enough base more (suc j) zero zero in_j in_k = refl
digits_enough base more (suc j) zero (suc n) in_j in_k = absurd (omega arith)
digits_enough base more (suc j) (suc k) zero in_j in_k = refl
digits_enough base more (suc j) (suc k) (suc n) in_j in_k =
    let smaller : suc n / base < suc n = div-lt_self (omega arith) more in
    ap (λ d. suc d) (digits_enough base more j k (suc n / base) (omega arith) (omega arith))

-- one digit, and those of the rest
pub digit_count-more : (base : ℕ) → 1 < base → (n : ℕ) → 0 < n → digit_count base n ≡ digit_count base (n / base) + 1
digit_count-more base more zero some = absurd (omega arith)
digit_count-more base more (suc n) some =
    let smaller : suc n / base < suc n = div-lt_self (omega arith) more in
    let same = digits_enough base more n (suc n / base) (suc n / base) (omega arith) (omega arith) in
    omega (arith, same)

digits_reach : (base : ℕ) → 1 < base → (k n : ℕ) → n ≤ k → n < base ^ digits base k n
digits_reach base more zero n in_k = rw (pow-zero base) (omega arith)
digits_reach base more (suc k) zero in_k = rw (pow-zero base) (omega arith)
digits_reach base more (suc k) (suc n) in_k =
    let smaller : suc n / base < suc n = div-lt_self (omega arith) more in
    let rest = digits_reach base more k (suc n / base) (omega arith) in
    let some : zero < base = omega arith in
    rw (pow-suc base (digits base k (suc n / base))) ((div-lt_iff_lt-mul some).0 rest)

digits_least : (base : ℕ) → 1 < base → (k n e : ℕ) → n < base ^ e → digits base k n ≤ e
digits_least base more zero n e below = omega arith
digits_least base more (suc k) zero e below = omega arith
digits_least base more (suc k) (suc n) zero below = let one : suc n < 1 = rw (pow-zero base) at below in absurd (omega arith)
digits_least base more (suc k) (suc n) (suc e) below =
    let some : zero < base = omega arith in
    let product : suc n < base ^ e * base = rw (pow-suc base e) at below in
    let rest = digits_least base more k (suc n / base) e ((div-lt_iff_lt-mul some).1 product) in
    omega arith

-- the count is the fewest digits
pub digit_count-fewest : (base : ℕ) → 1 < base → (n : ℕ) → IsFewestDigits base n (digit_count base n)
digit_count-fewest base more n = record {
  reach = digits_reach base more n n (omega arith);
  least = λ e below. digits_least base more n n e below;
}
