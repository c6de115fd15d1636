-- The sink that collects bytes in memory.
use Rattle.std.specs.Prelude.{ℕ, List, Option, Some}
use Rattle.av1_c.specs.declared.gathered.GatheringSink.{GatheringSink}

-- the bytes that the sink took
abbrev pub gathered : GatheringSink → List ℕ
gathered s = s.bytes.items

-- the sink always knows these bytes
abbrev pub taken_of : GatheringSink → Option (List ℕ)
taken_of s = Some (gathered s)

-- how many writes have failed
abbrev pub gathering_faults : GatheringSink → ℕ
gathering_faults s = s.faults
