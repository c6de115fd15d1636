-- The contract of the call that reads a sequence of frames from a source and writes the shown frames to a sink.
use Rattle.std.specs.Prelude.{◌≡◌, ◌⊎◌, ℕ, ◌+◌, ◌≤◌, Bool, List, [], length, Option, Some, Ok, Err, IsOk, IsErrAnd}
use Rattle.std.specs.Prelude.{IfSome, ⊤, if◌then◌else◌}
use Rattle.std.specs.Io.KnownBytes.{Appends, Consumes, IsAtEnd}
use Rattle.av1_streams.specs.Faults.{FaultCounted}
use Rattle.av1_streams.specs.Streams.{AreBytes, AppendsPrefix, max_plan_bytes}
use Rattle.av1_streams.specs.Tasks.{Cause, read_failed, too_long, refused, write_failed, no_memory, ErrorLeaves}
use Rattle.av1_sequence.specs.declared.error.SequenceError.{SequenceError}
use Rattle.av1_sequence.specs.declared.error.SequenceError.TheVariants as errors
use Rattle.av1_sequence.specs.Files.{Answer, AreShown, AreWholeFrames, HasOutcome, IsFirstRefused, Lead, RefusesEntry}
use Rattle.av1_sequence.specs.Files.{TakesEntry, beginning, empty_slot, of_frame}
use Rattle.av1_sequence.specs.Grammar.{EntryValue, FileValue}
use Rattle.av1_sequence.specs.Kept.{Kept}
use Rattle.av1_sequence.specs.Output.{frame_text}
use Rattle.av1_sequence.specs.Slots.{Frame}

-- the cause of an error
abbrev pub cause_of : SequenceError → Cause
cause_of errors.ReadFault = read_failed
cause_of errors.TooLong = too_long
cause_of (errors.Malformed at) = refused
cause_of (errors.Frame i fault) = refused
cause_of (errors.EmptySlot i) = refused
cause_of errors.WriteFault = write_failed
cause_of errors.Memory = no_memory

-- what a result says of the source
abbrev pub LeavesSource : Answer → Option (List ℕ) → Option (List ℕ) → Type 0
LeavesSource (Ok done) left left' = IsAtEnd left'
LeavesSource (Err e) left left' = ErrorLeaves (cause_of e) max_plan_bytes left left'

-- What a result says of the bytes that were read and of the sink. After Ok, and after the input is rejected, the sink
-- got the output of the outcome. After a failed write it got a prefix of that output. If memory ran out, it got the
-- output of some first entries, each whole. After a failed read the sink is unchanged.
abbrev pub ErrorAnswers : Cause → SequenceError → List ℕ → Option (List ℕ) → Option (List ℕ) → Type 0
ErrorAnswers too_long e bytes taken taken' = (written : List ℕ) × HasOutcome bytes written (Err e) ×
    Appends taken taken' written
ErrorAnswers refused e bytes taken taken' = (written : List ℕ) × HasOutcome bytes written (Err e) ×
    Appends taken taken' written
ErrorAnswers read_failed e bytes taken taken' = ⊤
ErrorAnswers write_failed e bytes taken taken' =
    (written : List ℕ) × ((outcome : Answer) × HasOutcome bytes written outcome × AppendsPrefix taken taken' written)
ErrorAnswers no_memory e bytes taken taken' = (written : List ℕ) × AreWholeFrames bytes written ×
    Appends taken taken' written

abbrev pub Answers : Answer → List ℕ → Option (List ℕ) → Option (List ℕ) → Type 0
Answers (Ok done) bytes taken taken' = (written : List ℕ) × HasOutcome bytes written (Ok done) ×
    Appends taken taken' written
Answers (Err e) bytes taken taken' = ErrorAnswers (cause_of e) e bytes taken taken'

-- errors that occur before anything is written
abbrev pub IsBeforeFrames : SequenceError → Type 0
IsBeforeFrames errors.ReadFault = ⊤
IsBeforeFrames errors.TooLong = ⊤
IsBeforeFrames (errors.Malformed at) = ⊤
IsBeforeFrames (errors.Frame i fault) = ⊥
IsBeforeFrames (errors.EmptySlot i) = ⊥
IsBeforeFrames errors.WriteFault = ⊥
IsBeforeFrames errors.Memory = ⊥

-- What the call does.
pub record PerformsInTurn {S K : Type 0} (left : S → Option (List ℕ)) (source_faults : S → ℕ)
    (taken : K → Option (List ℕ)) (sink_faults : K → ℕ) (source source' : S) (sink sink' : K)
    (answer : Answer) : Type 0 where
  -- Some bytes were read, at most one past the limit, and the result fits these bytes. If the bytes of the source are
  -- known, they begin with these.
  pub read : (bytes : List ℕ) × AreBytes bytes × (length bytes ≤ max_plan_bytes + 1) ×
      Consumes (left source) (left source') bytes × Answers answer bytes (taken sink) (taken sink')
  -- The result says whether the source has more bytes.
  pub leaves : LeavesSource answer (left source) (left source')
  -- After a failed read, too many bytes or a malformed sequence, nothing was written. If memory ran out before all
  -- bytes were read, nothing was written either.
  pub unwritten : IsErrAnd answer IsBeforeFrames → sink' ≡ sink
  pub memory : IsErrAnd answer (λ e. cause_of e ≡ no_memory) → IsAtEnd (left source') ⊎ (sink' ≡ sink)
  -- The call returns a fault exactly if the source or the sink counted one. Counts never fall.
  pub read_fault : IsErrAnd answer (λ e. cause_of e ≡ read_failed) →
      FaultCounted (source_faults source) (source_faults source')
  pub source_uncounted : ¬ IsErrAnd answer (λ e. cause_of e ≡ read_failed) →
      source_faults source' ≡ source_faults source
  pub write_fault : IsErrAnd answer (λ e. cause_of e ≡ write_failed) →
      FaultCounted (sink_faults sink) (sink_faults sink')
  pub sink_uncounted : ¬ IsErrAnd answer (λ e. cause_of e ≡ write_failed) → sink_faults sink' ≡ sink_faults sink
  pub source_later : source_faults source ≤ source_faults source'
  pub sink_later : sink_faults sink ≤ sink_faults sink'

-- ---- what follows if the bytes of a source are known

-- The result is the outcome of the bytes, unless a read or a write failed, or memory ran out.
abbrev pub ErrorTells : Cause → SequenceError → Answer → Type 0
ErrorTells too_long e outcome = outcome ≡ Err e
ErrorTells refused e outcome = outcome ≡ Err e
ErrorTells read_failed e outcome = ⊤
ErrorTells write_failed e outcome = ⊤
ErrorTells no_memory e outcome = ⊤

abbrev pub Tells : Answer → Answer → Type 0
Tells (Ok done) outcome = IsOk outcome
Tells (Err e) outcome = ErrorTells (cause_of e) e outcome

-- What a result says of all the bytes of a source, if they are known. It follows from what the call does.
pub record AnswersInTurn {S K : Type 0} (left : S → Option (List ℕ)) (source_faults : S → ℕ)
    (taken : K → Option (List ℕ)) (sink_faults : K → ℕ) (source source' : S) (sink sink' : K)
    (answer : Answer) : Type 0 where
  -- Each result says what happened to the bytes and the sink.
  pub answers : IfSome (left source) (λ bytes. Answers answer bytes (taken sink) (taken sink'))
  -- The call rejects the input exactly if the outcome does, unless a read or a write failed or memory ran out.
  pub exactly : IfSome (left source) (λ bytes. (written : List ℕ) (outcome : Answer) →
      HasOutcome bytes written outcome → Tells answer outcome)
  -- Without a fault, input without a rejected entry gives Ok, unless memory ran out.
  pub complete : ¬ FaultCounted (source_faults source) (source_faults source') →
      ¬ FaultCounted (sink_faults sink) (sink_faults sink')
      → IfSome (left source) (λ bytes. (written : List ℕ) (done : Unit {0}) → HasOutcome bytes written (Ok done) →
      IsOk answer ⊎ IsErrAnd answer (λ e. cause_of e ≡ no_memory))

-- ---- definitions for private contracts

-- What the result of showing all entries says of the sequence and of the sink. After a failed write it speaks of the
-- entries up to the one that was being written.
abbrev pub Shows : FileValue → Answer → Option (List ℕ) → Option (List ℕ) → Type 0
Shows f (Ok done) taken taken' = (written : List ℕ) × ((k : Kept) × Lead (beginning f) f.entries written k) ×
    Appends taken taken' written
Shows f (Err (errors.Frame i fault)) taken taken' =
    (written : List ℕ) × IsFirstRefused (beginning f) f.entries i (of_frame fault) written ×
    Appends taken taken' written
Shows f (Err (errors.EmptySlot i)) taken taken' =
    (written : List ℕ) × IsFirstRefused (beginning f) f.entries i empty_slot written × Appends taken taken' written
Shows f (Err errors.WriteFault) taken taken' =
    (written : List ℕ) × ((n : ℕ) × AreShown (beginning f) f.entries n written) × AppendsPrefix taken taken' written
Shows f (Err errors.Memory) taken taken' = (written : List ℕ) × ((n : ℕ) × AreShown (beginning f) f.entries n written) ×
    Appends taken taken' written
Shows f (Err errors.ReadFault) taken taken' = ⊥
Shows f (Err errors.TooLong) taken taken' = ⊥
Shows f (Err (errors.Malformed at)) taken taken' = ⊥

-- what the result of showing one entry says, with the number of the entry
abbrev pub ShowsEntry : Kept → (index : ℕ) → EntryValue → Answer → Kept → Option (List ℕ) → Option (List ℕ) → Type 0
ShowsEntry k index e (Ok done) k' taken taken' =
    (written : List ℕ) × TakesEntry k e written k' × Appends taken taken' written
ShowsEntry k index e (Err (errors.Frame i fault)) k' taken taken' =
    (i ≡ index) × RefusesEntry k e (of_frame fault) × Appends taken taken' []
ShowsEntry k index e (Err (errors.EmptySlot i)) k' taken taken' =
    (i ≡ index) × RefusesEntry k e empty_slot × Appends taken taken' []
ShowsEntry k index e (Err errors.WriteFault) k' taken taken' =
    (written : List ℕ) × TakesEntry k e written k' × AppendsPrefix taken taken' written
ShowsEntry k index e (Err errors.Memory) k' taken taken' = Appends taken taken' []
ShowsEntry k index e (Err errors.ReadFault) k' taken taken' = ⊥
ShowsEntry k index e (Err errors.TooLong) k' taken taken' = ⊥
ShowsEntry k index e (Err (errors.Malformed at)) k' taken taken' = ⊥

-- an entry was accepted, and its frame is the last one; if the frame is shown, it is also what is written
abbrev pub IsTaken : Kept → EntryValue → (shown : Bool) → Kept → Type 0
IsTaken k e shown k' = (frame : Frame) × (k'.last ≡ Some frame) ×
    TakesEntry k e (if shown then frame_text k'.frames frame else []) k'
