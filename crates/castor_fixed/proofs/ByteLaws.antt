-- The bytes of the number that bytes make are these bytes.
use Rattle.std.proofs.Common.{◌/◌, ◌%◌, ◌≡◌, ℕ, zero, suc, ◌+◌, ◌*◌, ◌^◌, ◌<◌, ◌≤◌, List, [], ◌∷◌, length, take, slice_index, refl, sym, ap, ◌∙◌, arith}
use Rattle.std.proofs.Math.Nat.{div-div-eq-div-mul, pow-succ'}
use Rattle.std.specs.Int.{byte_at, bytes_low_first}
use Rattle.byteorder.specs.Endian.{little_from}
use Rattle.byteorder.specs.Numbers.{little_from-cons}

byte_at-next : (i x : ℕ) → byte_at (suc i) x ≡ byte_at i (x / 256)
byte_at-next zero x = refl
byte_at-next (suc i) x = ap (λ (n : ℕ). n % 256) (ap (λ (n : ℕ). x / n) (pow-succ' 256 (suc i)) ∙ sym (div-div-eq-div-mul x 256 (256 ^ suc i)))

bytes_low_first-next : (i k x : ℕ) → bytes_low_first (suc i) k x ≡ bytes_low_first i k (x / 256)
bytes_low_first-next i zero x = refl
bytes_low_first-next i (suc k) x = rw (byte_at-next i x, bytes_low_first-next (suc i) k x) refl

low_digit : (a r : ℕ) → a < 256 → (a + 256 * r) % 256 ≡ a
low_digit a r below = omega arith

high_digits : (a r : ℕ) → a < 256 → (a + 256 * r) / 256 ≡ r
high_digits a r below = omega arith

-- the first k bytes are those of their number
pub bytes-little_from : (k : ℕ) (xs : List ℕ) → ((i : ℕ) → slice_index xs i < 256) → k ≤ length xs → bytes_low_first 0 k (little_from 0 k xs) ≡ take k xs
bytes-little_from zero xs small within = refl
bytes-little_from (suc k) [] small within = absurd (omega arith)
bytes-little_from (suc k) (a ∷ rest) small within =
    let first : a < 256 = small 0 in
    rw (little_from-cons 0 k a rest, low_digit a (little_from 0 k rest) first, bytes_low_first-next 0 k (a + 256 * little_from 0 k rest), high_digits a (little_from 0 k rest) first)
    (ap (λ w. a ∷ w) (bytes-little_from k rest (λ i. small (suc i)) (omega arith)))
