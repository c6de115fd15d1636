-- The source over a slice and the sink in memory.
use Rattle.std.specs.Prelude.{ℕ, List}
use Rattle.av1_streams.specs.declared.source.SliceSource.{SliceSource}
use Rattle.av1_streams.specs.declared.sink.MemSink.{MemSink}

-- the bytes that are left
abbrev pub source_bytes : SliceSource → List ℕ
source_bytes s = s.bytes.now

-- the greatest number of bytes that a read gives
abbrev pub source_piece : SliceSource → ℕ
source_piece s = s.piece

-- the numbers of the reads that fail
abbrev pub source_fails : SliceSource → List ℕ
source_fails s = s.fails.now

-- the number of the next read
abbrev pub source_calls : SliceSource → ℕ
source_calls s = s.calls

-- the number of reads that have failed
abbrev pub source_faults : SliceSource → ℕ
source_faults s = s.faults

-- the bytes that were taken
abbrev pub sink_bytes : MemSink → List ℕ
sink_bytes s = s.bytes.items

-- the greatest number of bytes that it holds
abbrev pub sink_room : MemSink → ℕ
sink_room s = s.room

-- the greatest number of bytes that a write takes
abbrev pub sink_piece : MemSink → ℕ
sink_piece s = s.piece

-- the numbers of the writes that fail
abbrev pub sink_fails : MemSink → List ℕ
sink_fails s = s.fails.now

-- the number of the next write
abbrev pub sink_calls : MemSink → ℕ
sink_calls s = s.calls

-- the number of writes that have failed
abbrev pub sink_faults : MemSink → ℕ
sink_faults s = s.faults
