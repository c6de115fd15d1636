-- The outcome of the bytes of a sequence of frames.
use Rattle.std.specs.Prelude.{◌≡◌, ℕ, List, Ok, Err}
use Rattle.av1_sequence.specs.Files.{HasOutcome}
use Rattle.av1_sequence.specs.declared.error.SequenceError.{SequenceError}
use Rattle.av1_c.specs.PartFaults.{sequence_fault}
use Rattle.av1_c.specs.Parts.{PartsOutcome}

-- the planes of the frames that the sequence shows, or why the bytes are rejected
abbrev pub SequenceComesTo : List ℕ → PartsOutcome → Type 0
SequenceComesTo bytes (Ok planes) = (done : Unit {0}) × HasOutcome bytes planes (Ok done)
SequenceComesTo bytes (Err fault) =
    (written : List ℕ) × ((e : SequenceError) × HasOutcome bytes written (Err e) × (fault ≡ sequence_fault e))
