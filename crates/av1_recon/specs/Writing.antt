-- What a call does that writes bytes to a sink.
use Rattle.std.specs.Prelude.{ℕ, List, Option}
use Rattle.av1_streams.specs.Tasks.{WritesBytes}
use Rattle.av1_recon.specs.Outcomes.{Answer, cause}

-- After Ok they were appended. After a failed write a prefix of them was. Every other error is running out of memory,
-- before the first written byte.
abbrev pub Writes : {K : Type 0} → (K → Option (List ℕ)) → (K → ℕ) → K → K → List ℕ → Answer → Type 0
Writes taken faults sink sink' bytes answer = WritesBytes cause taken faults sink sink' bytes answer
