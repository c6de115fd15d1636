-- The outcome of the bytes of a sequence: the planes of its shown frames, one after the other, up to the first rejected
-- entry.
use Rattle.std.specs.Prelude.{◌≡◌, ◌⊎◌, ℕ, ◌<◌, ◌≤◌, List, [], ◌∷◌, ◌++◌, length, take, Some, Result, Ok, Err}
use Rattle.std.specs.Prelude.{slice_get, None, if◌then◌else◌}
use Rattle.av1_plan.specs.Plan.{PlanValue}
use Rattle.av1_streams.specs.Streams.{AreBytes, max_plan_bytes}
use Rattle.av1_tile.specs.Output.{planes_of}
use Rattle.av1_sequence.specs.declared.error.FrameError.TheVariants as frame_errors
use Rattle.av1_sequence.specs.declared.error.FrameFault.{FrameFault}
use Rattle.av1_sequence.specs.declared.error.FrameFault.TheVariants as faults
use Rattle.av1_sequence.specs.declared.error.SequenceError.{SequenceError}
use Rattle.av1_sequence.specs.declared.error.SequenceError.TheVariants as errors
use Rattle.av1_sequence.specs.Grammar.{EntryValue, FileValue, FrameValue, again, coded, read_file}
use Rattle.av1_sequence.specs.Kept.{Kept}
use Rattle.av1_sequence.specs.Outcomes.{IsValidFrame, Refuses, accepted, empty_sequence, shown_again}
use Rattle.av1_sequence.specs.Output.{frame_text}
use Rattle.av1_sequence.specs.Slots.{Frame, slot_of}

-- the result of a call
abbrev pub Answer : Type 0
Answer = Result (Unit {0}) SequenceError

-- ---- entries

-- An entry is accepted, these bytes are written for it, and the sequence is then `k'`. A frame that isn't shown writes
-- nothing. A slot that is shown again writes its frame. (AV1 specification: output process.)
abbrev pub TakesEntry : Kept → EntryValue → (written : List ℕ) → Kept → Type 0
TakesEntry k (coded shown f) written k' = (plan : PlanValue) × IsValidFrame k f.head f.part plan ×
    (k' ≡ accepted k f.head plan) × (written ≡ (if shown then planes_of plan else []))
TakesEntry k (again slot refresh) written k' = (frame : Frame) × (slot_of k.slots slot ≡ Some frame) ×
    (k' ≡ shown_again k refresh frame) × (written ≡ frame_text k.frames frame)

-- From the sequence `k` on, entries are accepted one after the other. These bytes are written for them, and the
-- sequence is then `k'`.
abbrev pub Lead : Kept → List EntryValue → (written : List ℕ) → Kept → Type 0
Lead k [] written k' = (written ≡ []) × (k' ≡ k)
Lead k (e ∷ entries) written k' = (one : List ℕ) × ((m : Kept) × TakesEntry k e one m ×
    ((rest : List ℕ) × Lead m entries rest k' × (written ≡ one ++ rest)))

-- why the frame of an entry is rejected
abbrev pub RefusesFrame : Kept → FrameValue → FrameFault → Type 0
RefusesFrame k f faults.TooLarge = Refuses k f.head f.part frame_errors.TooLarge
RefusesFrame k f (faults.Malformed at) = Refuses k f.head f.part (frame_errors.Malformed at)
RefusesFrame k f (faults.Invalid leaf kind) = Refuses k f.head f.part (frame_errors.Invalid leaf kind)

-- why an entry is rejected: because of its frame, or because the slot that it shows again is empty
pub data EntryFault : Type 0 where
  of_frame : FrameFault → EntryFault
  empty_slot : EntryFault

abbrev pub RefusesEntry : Kept → EntryValue → EntryFault → Type 0
RefusesEntry k (coded shown f) (of_frame fault) = RefusesFrame k f fault
RefusesEntry k (coded shown f) empty_slot = ⊥
RefusesEntry k (again slot refresh) (of_frame fault) = ⊥
RefusesEntry k (again slot refresh) empty_slot = slot_of k.slots slot ≡ None

-- The first n entries are accepted, and these bytes are written for them.
pub record AreShown (k : Kept) (entries : List EntryValue) (n : ℕ) (written : List ℕ) : Type 0 where
  pub within : n ≤ length entries
  pub kept : Kept
  pub lead : Lead k (take n entries) written kept

-- Entry i is the first rejected entry, for this reason. These bytes are written for the entries before it.
pub record IsFirstRefused (k : Kept) (entries : List EntryValue) (i : ℕ) (fault : EntryFault)
    (written : List ℕ) : Type 0 where
  pub kept : Kept
  pub before : Lead k (take i entries) written kept
  pub entry : EntryValue
  pub at : slice_get entries i ≡ Some entry
  pub refused : RefusesEntry kept entry fault

-- ---- bytes

-- an empty sequence for the frames of a file
abbrev pub beginning : FileValue → Kept
beginning f = empty_sequence f.frames

-- the bytes are this sequence, and are no longer than a plan may be
pub record AreFile (bytes : List ℕ) (f : FileValue) : Type 0 where
  pub fits : AreBytes bytes
  pub short : length bytes ≤ max_plan_bytes
  pub read : read_file bytes ≡ Ok f

-- The outcome of bytes, and the output. Either all entries are accepted, or one is the first rejected entry, or the
-- bytes are not a valid sequence.
abbrev pub HasOutcome : List ℕ → (written : List ℕ) → Answer → Type 0
HasOutcome bytes written (Ok done) =
    (f : FileValue) × AreFile bytes f × ((k : Kept) × Lead (beginning f) f.entries written k)
HasOutcome bytes written (Err errors.TooLong) = (max_plan_bytes < length bytes) × (written ≡ [])
HasOutcome bytes written (Err (errors.Malformed at)) = (length bytes ≤ max_plan_bytes) × (read_file bytes ≡ Err at) ×
    (written ≡ [])
HasOutcome bytes written (Err (errors.Frame i fault)) =
    (f : FileValue) × AreFile bytes f × IsFirstRefused (beginning f) f.entries i (of_frame fault) written
HasOutcome bytes written (Err (errors.EmptySlot i)) =
    (f : FileValue) × AreFile bytes f × IsFirstRefused (beginning f) f.entries i empty_slot written
HasOutcome bytes written (Err errors.ReadFault) = ⊥
HasOutcome bytes written (Err errors.WriteFault) = ⊥
HasOutcome bytes written (Err errors.Memory) = ⊥

-- the output is what some first entries write, each whole
abbrev pub AreWholeFrames : List ℕ → (written : List ℕ) → Type 0
AreWholeFrames bytes written =
    (written ≡ []) ⊎ ((f : FileValue) × AreFile bytes f × ((n : ℕ) × AreShown (beginning f) f.entries n written))

-- ---- laws

-- Every list of bytes has an outcome and an output.
abbrev pub BytesHaveAnOutcome : Type 0
BytesHaveAnOutcome = (bytes : List ℕ) → AreBytes bytes →
    (written : List ℕ) × ((outcome : Answer) × HasOutcome bytes written outcome)

-- No list of bytes has two outcomes or two outputs.
abbrev pub OutcomesAreOne : Type 0
OutcomesAreOne =
    (bytes written others : List ℕ) (a b : Answer) → HasOutcome bytes written a → HasOutcome bytes others b →
    (a ≡ b) × (written ≡ others)
