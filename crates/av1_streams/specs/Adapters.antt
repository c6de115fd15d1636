-- The source over a reader and the sink over a writer.
use Rattle.std.specs.Prelude.{ℕ}
use Rattle.av1_streams.specs.declared.source.ReadSource.{ReadSource}
use Rattle.av1_streams.specs.declared.sink.WriteSink.{WriteSink}

-- the reader that the bytes come from
abbrev pub reader_of : {R : Type 0} → ReadSource R → R
reader_of s = s.inner

-- the number of reads that have failed
abbrev pub reader_faults : {R : Type 0} → ReadSource R → ℕ
reader_faults s = s.faults

-- the writer that the bytes go to
abbrev pub writer_of : {W : Type 0} → WriteSink W → W
writer_of s = s.inner

-- the number of writes that have failed
abbrev pub writer_faults : {W : Type 0} → WriteSink W → ℕ
writer_faults s = s.faults
