-- What clauses see of the real adapters.
use Rattle.std.specs.Prelude.{ℕ}
use Rattle.castor_base.specs.declared.paths.PathShelf.{PathShelf}
use Rattle.castor_base.specs.declared.streams.ReaderSource.{ReaderSource}
use Rattle.castor_base.specs.declared.streams.WriterSink.{WriterSink}

-- how many calls of the shelf failed
abbrev pub path_faults : {R File Dir : Type 0} → PathShelf R File Dir → ℕ
path_faults s = s.faults

-- the reader that the source takes from
abbrev pub reader_of : {R : Type 0} → ReaderSource R → R
reader_of s = s.inner

-- how many calls of the source failed
abbrev pub reader_faults : {R : Type 0} → ReaderSource R → ℕ
reader_faults s = s.faults

-- the writer that the sink gives to
abbrev pub writer_of : {W : Type 0} → WriterSink W → W
writer_of s = s.inner

-- how many calls of the sink failed
abbrev pub writer_faults : {W : Type 0} → WriterSink W → ℕ
writer_faults s = s.faults
