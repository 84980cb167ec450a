-- What clauses see of the shelf in memory.
use Rattle.std.specs.Prelude.{ℕ, false, List, Option, Result, ◌≡◌, ◌≤◌, IsSomeAnd, IsTrue, MatchResult, length, vec_capacity}
use Rattle.std.specs.BTreeMap.{BTreeMap, get_by_text}
use Rattle.std.specs.declared.alloc.Global.{Global}
use Rattle.std.specs.declared.string.String.{String}
use Rattle.std.specs.declared.vec.Vec.{Vec}
use Rattle.castor_base.specs.FileMap.{file_of}
use Rattle.castor_base.specs.Failing.{after_call, after_fault, fails_next}
use Rattle.castor_base.specs.declared.failing.FailingCalls.{FailingCalls}
use Rattle.castor_base.specs.declared.failed.ShelfError.{ShelfError}
use Rattle.castor_base.specs.declared.failed.ShelfError.TheVariants as e
use Rattle.castor_base.specs.declared.shelves.MemoryShelf.{MemoryShelf}

-- the bytes under a name, if it has some
abbrev pub shelf_file : MemoryShelf → List ℕ → Option (List ℕ)
shelf_file s name = file_of s.files name

-- a file under the name has room for these bytes
abbrev pub HasRoom : BTreeMap (String Global) (Vec ℕ Global) → List ℕ → List ℕ → Type 0
HasRoom files name bytes = IsSomeAnd (get_by_text files name) (λ v. length bytes ≤ vec_capacity v)

-- no file under the name has room for these bytes, so that the shelf has to grow
abbrev pub HasToGrow : MemoryShelf → List ℕ → List ℕ → Type 0
HasToGrow s name bytes = HasRoom s.files name bytes → ⊥

-- the calls that are to fail, and the counts
abbrev pub shelf_failing : MemoryShelf → FailingCalls
shelf_failing s = s.failing

-- the counts after a read that was refused: a fault is counted at Failed alone
abbrev pub after_refusal : FailingCalls → ShelfError → FailingCalls
after_refusal f e.Absent = after_call f
after_refusal f e.TooLong = after_call f
after_refusal f e.Failed = after_fault (after_call f)
after_refusal f e.Memory = after_call f

-- how a refusal goes by the plan: Failed comes only at a call that is to fail, and Memory only at another
abbrev pub FailsAsPlanned : FailingCalls → ShelfError → Type 0
FailsAsPlanned f e.Absent = Unit {0}
FailsAsPlanned f e.TooLong = Unit {0}
FailsAsPlanned f e.Failed = IsTrue (fails_next f)
FailsAsPlanned f e.Memory = fails_next f ≡ false

-- a read was counted, a fault at Failed alone, and a read that is to fail was refused
pub record CountsRead {T : Type 0} (old new : FailingCalls) (result : Result T ShelfError) : Type 0 where
  pub after : MatchResult result (λ _. new ≡ after_call old) (λ error. new ≡ after_refusal old error)
  pub planned : MatchResult result (λ _. fails_next old ≡ false) (FailsAsPlanned old)
