-- The calls of an object in memory that are to fail, and its counts of calls and faults.
use Rattle.std.specs.Prelude.{ℕ, List, Bool, ◌==◌, ◌≡◌, IsTrue, IsErr, Result, MatchResult}
use Rattle.std.specs.List.{list_any}
use Rattle.castor_base.specs.Causes.{one_more}
use Rattle.castor_base.specs.declared.failing.FailingCalls.{FailingCalls}

-- the numbers of the calls that are to fail, counted from 0
abbrev pub failing_numbers : FailingCalls → List ℕ
failing_numbers f = f.numbers.items

-- how many calls there were
abbrev pub calls_seen : FailingCalls → ℕ
calls_seen f = f.seen

-- how many faults were counted
abbrev pub faults_seen : FailingCalls → ℕ
faults_seen f = f.faults

-- whether the next call is to fail
abbrev pub fails_next : FailingCalls → Bool
fails_next f = list_any (λ number. number == f.seen) f.numbers.items

-- the same after one more call
abbrev pub after_call : FailingCalls → FailingCalls
after_call f = record { numbers = f.numbers; seen = one_more f.seen; faults = f.faults }

-- the same after one more fault
abbrev pub after_fault : FailingCalls → FailingCalls
after_fault f = record { numbers = f.numbers; seen = f.seen; faults = one_more f.faults }

-- a call was counted, a fault at an error alone, and a call that is to fail was an error
pub record CountsCall {T E : Type 0} (old new : FailingCalls) (result : Result T E) : Type 0 where
  pub after : MatchResult result (λ _. new ≡ after_call old) (λ _. new ≡ after_fault (after_call old))
  pub planned : IsTrue (fails_next old) → IsErr result
