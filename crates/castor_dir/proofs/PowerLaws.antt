-- The number of buckets is the least power of two that is large enough.
use Rattle.std.proofs.Common.{◌≡◌, ◌∙◌, ℕ, zero, suc, ◌-◌, ◌*◌, ◌/◌, ◌^◌, ◌<◌, ◌≤◌, max, refl, subst, ⊎_elim, arith}
use Rattle.std.proofs.Math.Nat.{pow-suc}
use Rattle.std.proofs.Math.Pow.{pow_mono}
use Rattle.std.proofs.lemmas.Nat.{pow_pos}
use Rattle.std.proofs.lemmas.Bool.{cases_lt}
use Rattle.castor_fixed.specs.Digits.{bits, IsFewestDigits}
use Rattle.castor_fixed.proofs.DigitLaws.{digit_count-fewest}
use Rattle.castor_dir.specs.Buckets.{bucket_count, IsLeastPowerOfTwo}

bits-fewest : (n : ℕ) → IsFewestDigits 2 n (bits n)
bits-fewest n = digit_count-fewest 2 (omega arith) n

pub bucket_count-least : (entries : ℕ) → IsLeastPowerOfTwo entries (bucket_count entries)
bucket_count-least entries = record {
  exponent = bits (entries - 1);
  power = refl;
  enough = let reach = (bits-fewest (entries - 1)).reach in omega arith;
  least = λ k fits. pow_mono ((bits-fewest (entries - 1)).least k (let some = pow_pos k in omega arith));
}

-- a power of two of which half is too few is no greater than any that is enough
no_more : (entries k j : ℕ) → 2 ^ k / 2 < max 1 entries → entries ≤ 2 ^ j → k ≤ j
no_more entries zero j half enough = omega arith
no_more entries (suc k) j half enough =
    let doubled : 2 ^ suc k ≡ 2 ^ k * 2 = pow-suc 2 k in
    let some = pow_pos k in
    let below : 2 ^ k < 2 ^ j = omega arith in
    ⊎_elim (λ (less : k < j). omega arith) (λ (more : j ≤ k). let up = pow_mono more in absurd (omega arith)) (cases_lt k j)

-- the two are equal
pub power-least : (entries k : ℕ) → entries ≤ 2 ^ k → 2 ^ k / 2 < max 1 entries → 2 ^ k ≡ bucket_count entries
power-least entries k enough half =
    let count = bucket_count-least entries in
    let up = pow_mono (no_more entries k (bits (entries - 1)) half count.enough) in
    let down = count.least k enough in
    omega arith

-- what `next_power_of_two` gives
pub bucket_count-is : (entries n : ℕ) → (k : ℕ) × (n ≡ 2 ^ k) → entries ≤ n → n / 2 < max 1 entries → n ≡ bucket_count entries
bucket_count-is entries n power enough half =
    power.1 ∙ power-least entries power.0 (subst (λ m. entries ≤ m) power.1 enough) (subst (λ m. m / 2 < max 1 entries) power.1 half)
