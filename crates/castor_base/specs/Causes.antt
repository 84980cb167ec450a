-- When a call of the outside may answer that it failed.
use Rattle.std.specs.Prelude.{ℕ, ◌+◌, ◌-◌, ◌^◌, ◌≤◌, min, Result, OnErr}

-- what a count of so many shows: it stops at 2^64 - 1
abbrev pub counted : ℕ → ℕ
counted number = min number (2 ^ 64 - 1)

-- the count after one more
abbrev pub one_more : ℕ → ℕ
one_more count = counted (count + 1)

-- a count of faults rose, or stands at 2^64 - 1
abbrev pub Rose : ℕ → ℕ → Type 0
Rose before now = one_more before ≤ now

-- the count has not fallen, and an error comes only where it rose
pub record HasCause {T E : Type 0} (before now : ℕ) (result : Result T E) : Type 0 where
  pub later : before ≤ now
  pub failed : OnErr result (Rose before now)
