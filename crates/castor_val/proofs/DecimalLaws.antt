-- The digits of a number, one at a time from the last.
use Rattle.std.proofs.Common.{◌≡◌, ◌∙◌, ℕ, ◌+◌, ◌/◌, ◌%◌, ◌^◌, ◌<◌, ◌≤◌, ℤ, List, [], ◌∷◌, ◌++◌, length, drop, set, refl, ap, sym, subst, append_assoc, length-append}
use Rattle.std.specs.Prelude.{Result, Ok, Err, MatchResult}
use Rattle.std.specs.Fmt.{decimal, signed_decimal}
use Rattle.std.specs.Int.Signed.{mag}
use Rattle.std.specs.Result.{IsOk}
use Rattle.std.specs.Str.{IsUtf8}
use Rattle.std.proofs.lemmas.Fmt.{IsAscii-signed, decimal_digit, decimal_step}
use Rattle.std.proofs.lemmas.List.{drop-set}
use Rattle.std.proofs.lemmas.Str.{IsUtf8-from_ascii}

pub length-decimal_step : (n : ℕ) → 10 ≤ n → n < 2 ^ 64 → length (decimal n) ≡ length (decimal (n / 10)) + 1
length-decimal_step n many fits = ap length (decimal_step n many fits) ∙ length-append (decimal (n / 10)) ((48 + n % 10) ∷ [])

-- the last digit goes before the digits that are there
pub decimal_more : (n at : ℕ) (room : List ℕ) → 10 ≤ n → n < 2 ^ 64 → at < length room → decimal (n / 10) ++ drop at (set room at (48 + n % 10)) ≡ decimal n ++ drop (at + 1) room
decimal_more n at room many fits inside = rw (drop-set room at (48 + n % 10) inside, decimal_step n many fits) (sym (append_assoc (decimal (n / 10)) ((48 + n % 10) ∷ []) (drop (at + 1) room)))

-- and so does the only one
pub decimal_last : (n at : ℕ) (room : List ℕ) → n < 10 → at < length room → drop at (set room at (48 + n)) ≡ decimal n ++ drop (at + 1) room
decimal_last n at room one inside = rw (drop-set room at (48 + n) inside, decimal_digit n one) refl

-- what the room holds is UTF-8, so that it is read as a text
pub IsUtf8-signed_decimal : (z : ℤ) (bytes : List ℕ) → mag z < 2 ^ 63 → bytes ≡ signed_decimal z → IsUtf8 bytes
IsUtf8-signed_decimal z bytes fits is = subst IsUtf8 (sym is) (IsUtf8-from_ascii (signed_decimal z) (IsAscii-signed z fits))

pub ok_from_utf8 : {T E : Type 0} (bytes : List ℕ) (r : Result T E) (P : T → Type 0) (Q : E → Type 0) → IsUtf8 bytes → MatchResult r P (λ e. (¬ (IsUtf8 bytes)) × Q e) → IsOk r
ok_from_utf8 bytes (Ok text) P Q utf8 h = refl
ok_from_utf8 bytes (Err e) P Q utf8 h = absurd (h.0 utf8)
