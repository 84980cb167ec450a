-- How many digits a number has.
use Rattle.std.specs.Prelude.{ℕ, zero, suc, ◌/◌, ◌^◌, ◌<◌, ◌≤◌}

-- the number of digits of a number to a base, as far as so many divisions find them
abbrev pub digits : ℕ → ℕ → ℕ → ℕ
digits base zero n = 0
digits base (suc k) zero = 0
digits base (suc k) (suc n) = suc (digits base k (suc n / base))

-- the number of digits of a number to a base of 2 or more, which is none for 0
abbrev pub digit_count : ℕ → ℕ → ℕ
digit_count base n = digits base n n

-- the number of bits of a number, which is none for 0
abbrev pub bits : ℕ → ℕ
bits n = digit_count 2 n

-- d is the least number of digits with which a number to the base can be as large as n
pub record IsFewestDigits (base n d : ℕ) : Type 0 where
  pub reach : n < base ^ d
  pub least : (e : ℕ) → n < base ^ e → d ≤ e
