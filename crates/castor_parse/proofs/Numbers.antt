-- A number that digits spell is at least what its first digits spell.
use Rattle.std.proofs.Common.{◌≡◌, ℕ, ◌+◌, ◌-◌, ◌*◌, ◌^◌, ◌<◌, ◌≤◌, [], ◌∷◌, length, drop, get_or, ap, arith}
use Rattle.std.specs.Prelude.{fold}
use Rattle.std.proofs.lemmas.List.{drop_more}
use Rattle.castor_tokens.specs.Tokens.{Bytes}

abbrev step : ℕ → ℕ → ℕ
step n b = 10 * n + (b - 48)

grows : (digits : Bytes) (n : ℕ) → n ≤ fold step n digits
grows [] n = omega arith
grows (d ∷ digits) n = omega (arith, grows digits (step n d))

-- it is too large where it is at one more digit
pub too_large : (digits : Bytes) (i n total : ℕ) → i < length digits → fold (λ n b. 10 * n + (b - 48)) n (drop i digits) ≡ total → 2 ^ 64 ≤ 10 * n + (get_or digits i 0 - 48) → 2 ^ 64 ≤ total
too_large digits i n total lt is large =
    let e : fold step n (drop i digits) ≡ fold step (step n (get_or digits i 0)) (drop (i + 1) digits) = ap (fold step n) (drop_more digits i 0 lt) in
    omega (arith, is, e, grows (drop (i + 1) digits) (step n (get_or digits i 0)))
