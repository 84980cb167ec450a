-- What clauses see of the sources in memory.
use Rattle.std.specs.Prelude.{ℕ, List, drop, replicate}
use Rattle.castor_base.specs.declared.failing.FailingCalls.{FailingCalls}
use Rattle.castor_base.specs.declared.sources.MemorySource.{MemorySource}
use Rattle.castor_base.specs.declared.sources.SureSource.{SureSource}
use Rattle.castor_base.specs.declared.sources.RepeatSource.{RepeatSource}

-- the bytes that are left
abbrev pub sure_left : SureSource → List ℕ
sure_left s = drop s.at s.bytes.items

-- the bytes that are left
abbrev pub source_left : MemorySource → List ℕ
source_left s = sure_left s.bytes

-- the calls that are to fail, and the counts
abbrev pub source_failing : MemorySource → FailingCalls
source_failing s = s.failing

-- the bytes that are left: one byte, over and over
abbrev pub repeat_left : RepeatSource → List ℕ
repeat_left s = replicate s.left s.byte
