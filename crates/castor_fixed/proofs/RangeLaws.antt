-- The width of a range is the fewest bytes whose numbers reach from its least to its greatest.
use Rattle.std.proofs.Common.{◌≡◌, ℕ, ◌^◌, ◌<◌, ℤ, pos, negsuc, ◌-ℤ◌, ◌≤ℤ◌, ◌<ℤ◌, arith}
use Rattle.std.proofs.lemmas.Int.{ints}
use Rattle.std.specs.Int.{int_gap}
use Rattle.castor_fixed.specs.Fields.{IsFewestBytes, range_width}
use Rattle.castor_fixed.proofs.FieldLaws.{below-width, width-least}

-- the gap between two numbers is their difference
pub int_gap-is : (lo hi : ℤ) → lo ≤ℤ hi → hi -ℤ lo ≡ pos (int_gap lo hi)
int_gap-is (pos a) (pos b) order = omega (arith, ints)
int_gap-is (pos a) (negsuc b) order = omega (arith, ints)
int_gap-is (negsuc a) (pos b) order = omega (arith, ints)
int_gap-is (negsuc a) (negsuc b) order = omega (arith, ints)

below_from_difference : (lo hi : ℤ) (n : ℕ) → lo ≤ℤ hi → (hi -ℤ lo) <ℤ pos n → int_gap lo hi < n
below_from_difference lo hi n order below = let is = int_gap-is lo hi order in omega (arith, ints)

difference_from_below : (lo hi : ℤ) (n : ℕ) → lo ≤ℤ hi → int_gap lo hi < n → (hi -ℤ lo) <ℤ pos n
difference_from_below lo hi n order below = let is = int_gap-is lo hi order in omega (arith, ints)

pub range_width-fewest : (lo hi : ℤ) → lo ≤ℤ hi → (hi -ℤ lo) <ℤ pos (2 ^ 64) → IsFewestBytes lo hi (range_width lo hi)
range_width-fewest lo hi order span = record {
  most = width-least (int_gap lo hi) 8 (below_from_difference lo hi (2 ^ 64) order span);
  reach = difference_from_below lo hi (256 ^ range_width lo hi) order (below-width (int_gap lo hi) (int_gap lo hi) (omega arith));
  least = λ v below. width-least (int_gap lo hi) v (below_from_difference lo hi (256 ^ v) order below);
}
