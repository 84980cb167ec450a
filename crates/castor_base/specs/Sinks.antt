-- What clauses see of the sinks in memory.
use Rattle.std.specs.Prelude.{ℕ, ◌+◌, ◌<◌, List, length, vec_capacity, vec_len}
use Rattle.castor_base.specs.declared.failing.FailingCalls.{FailingCalls}
use Rattle.castor_base.specs.declared.sinks.MemorySink.{MemorySink}
use Rattle.castor_base.specs.declared.sinks.CountSink.{CountSink}

-- all bytes that were given
abbrev pub sink_given : MemorySink → List ℕ
sink_given s = s.bytes.items

-- the calls that are to fail, and the counts
abbrev pub sink_failing : MemorySink → FailingCalls
sink_failing s = s.failing

-- the vector that keeps what was given has no room for so many more bytes, so that it has to grow
abbrev pub HasToGrow : MemorySink → List ℕ → Type 0
HasToGrow s bytes = vec_capacity s.bytes < vec_len s.bytes + length bytes

-- how many bytes were given
abbrev pub count_of : CountSink → ℕ
count_of s = s.count
