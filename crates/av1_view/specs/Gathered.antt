-- The sink that keeps all bytes in memory.
use Rattle.std.specs.Prelude.{ℕ, List}
use Rattle.av1_view.specs.declared.gathered.Gathered.{Gathered}

-- the bytes that were written
abbrev pub gathered_bytes : Gathered → List ℕ
gathered_bytes s = s.bytes.items

-- how many writes have failed
abbrev pub gathered_faults : Gathered → ℕ
gathered_faults s = s.faults
