-- What a call does that reads bytes from a source to its end and writes their outcome to a sink: one record for all
-- such calls.
use Rattle.std.specs.Prelude.{◌≡◌, ◌≢◌, ◌⊎◌, ℕ, ◌+◌, ◌<◌, ◌≤◌, List, length, Option, Result, Ok, Err, OnOk, IfErr, IsOk}
use Rattle.std.specs.Prelude.{IsOkAnd, IsErrAnd, IfSome, ⊤}
use Rattle.std.specs.Io.KnownBytes.{Appends, Consumes, IsAtEnd}
use Rattle.av1_streams.specs.Faults.{FaultCounted}
use Rattle.av1_streams.specs.Streams.{AreBytes, Takes, AppendsPrefix}

-- ---- the task of a call

-- the cause of an error: a read that failed, a byte past the limit, the bytes themselves, a write that failed, or that
-- memory ran out
pub data Cause : Type 0 where
  read_failed : Cause
  too_long : Cause
  refused : Cause
  write_failed : Cause
  no_memory : Cause

-- Bytes have an outcome of type O or are rejected with an error of type E, and a call that succeeds returns an A.
pub record Task (O A E : Type 0) : Type 1 where
  -- the greatest number of bytes that are read
  pub limit : ℕ
  -- the outcome of bytes, or why they are rejected
  pub HasOutcome : List ℕ → Result O E → Type 0
  -- what is written of an outcome
  pub written : O → List ℕ
  -- what a returned value says of the outcome
  pub Says : A → O → Type 0
  -- the cause of an error
  pub cause : E → Cause

-- ---- what errors and returned values say

-- What an error says of the source. Nothing is left if the bytes were read to their end and rejected, or if a write
-- failed. If the bytes are too long, one byte past the limit was taken.
abbrev pub ErrorLeaves : Cause → ℕ → Option (List ℕ) → Option (List ℕ) → Type 0
ErrorLeaves too_long limit left left' = Takes (limit + 1) left left'
ErrorLeaves refused limit left left' = IsAtEnd left'
ErrorLeaves read_failed limit left left' = ⊤
ErrorLeaves write_failed limit left left' = IsAtEnd left'
ErrorLeaves no_memory limit left left' = ⊤

-- what a result says of the source: after Ok nothing is left
abbrev pub LeavesSource : {O A E : Type 0} → Task O A E → Result A E → Option (List ℕ) → Option (List ℕ) → Type 0
LeavesSource task (Ok a) left left' = IsAtEnd left'
LeavesSource task (Err e) left left' = ErrorLeaves (task.cause e) task.limit left left'

-- the bytes have an outcome, and P holds for it
abbrev pub ComeTo : {O A E : Type 0} → Task O A E → List ℕ → (O → Type 0) → Type 0
ComeTo {O} task bytes P = (outcome : O) × task.HasOutcome bytes (Ok outcome) × P outcome

-- What an error says of the bytes that were read and of the sink. If the bytes are rejected, this error is their
-- outcome. If a write failed, a prefix of the output was appended.
abbrev pub ErrorAnswers : {O A E : Type 0} → Task O A E → Cause → E → List ℕ → Option (List ℕ) →
    Option (List ℕ) → Type 0
ErrorAnswers task too_long e bytes taken taken' = task.HasOutcome bytes (Err e)
ErrorAnswers task refused e bytes taken taken' = task.HasOutcome bytes (Err e)
ErrorAnswers task read_failed e bytes taken taken' = ⊤
ErrorAnswers task write_failed e bytes taken taken' =
    ComeTo task bytes (λ outcome. AppendsPrefix taken taken' (task.written outcome))
ErrorAnswers task no_memory e bytes taken taken' = ⊤

-- what a result says of them: after Ok the output was appended, and the returned value says of the outcome what it
-- should
abbrev pub Answers : {O A E : Type 0} → Task O A E → Result A E → List ℕ → Option (List ℕ) → Option (List ℕ) → Type 0
Answers task (Ok a) bytes taken taken' =
    ComeTo task bytes (λ outcome. task.Says a outcome × Appends taken taken' (task.written outcome))
Answers task (Err e) bytes taken taken' = ErrorAnswers task (task.cause e) e bytes taken taken'

-- ---- what a call does

-- What a call does that reads bytes from a source to its end and writes their outcome to a sink.
pub record Performs {O A E S K : Type 0} (task : Task O A E) (left : S → Option (List ℕ)) (source_faults : S → ℕ)
    (taken : K → Option (List ℕ)) (sink_faults : K → ℕ)
    (source source' : S) (sink sink' : K) (answer : Result A E) : Type 0 where
  -- Some bytes were read, at most one past the limit, and the result follows from these bytes. If the source reports
  -- its bytes, these were the first.
  pub read : (bytes : List ℕ) × AreBytes bytes × (length bytes ≤ task.limit + 1) ×
      Consumes (left source) (left source') bytes
      × Answers task answer bytes (taken sink) (taken sink')
  -- Whether anything is left after them.
  pub leaves : LeavesSource task answer (left source) (left source')
  -- After every error except a failed write the sink is unchanged.
  pub unwritten : IfErr answer (λ e. task.cause e ≢ write_failed → sink' ≡ sink)
  -- The error is a fault exactly if the source or the sink counted one, and counts never fall.
  pub read_fault : IsErrAnd answer (λ e. task.cause e ≡ read_failed) →
      FaultCounted (source_faults source) (source_faults source')
  pub source_uncounted : ¬ IsErrAnd answer (λ e. task.cause e ≡ read_failed) →
      source_faults source' ≡ source_faults source
  pub write_fault : IsErrAnd answer (λ e. task.cause e ≡ write_failed) →
      FaultCounted (sink_faults sink) (sink_faults sink')
  pub sink_uncounted : ¬ IsErrAnd answer (λ e. task.cause e ≡ write_failed) → sink_faults sink' ≡ sink_faults sink
  pub source_later : source_faults source ≤ source_faults source'
  pub sink_later : sink_faults sink ≤ sink_faults sink'

-- ---- what follows for the bytes that a source reports

-- the errors that reject the bytes
abbrev pub IsRefusal : Cause → Type 0
IsRefusal too_long = ⊤
IsRefusal refused = ⊤
IsRefusal read_failed = ⊥
IsRefusal write_failed = ⊥
IsRefusal no_memory = ⊥

-- What an error says of the outcome: a rejection is the outcome, and a write fails only if there is something to write.
abbrev pub ErrorTells : {O E : Type 0} → Cause → E → Result O E → Type 0
ErrorTells too_long e outcome = outcome ≡ Err e
ErrorTells refused e outcome = outcome ≡ Err e
ErrorTells read_failed e outcome = ⊤
ErrorTells write_failed e outcome = IsOk outcome
ErrorTells no_memory e outcome = ⊤

-- the result agrees with the outcome, unless a read or a write failed, or memory ran out
abbrev pub Tells : {O A E : Type 0} → Task O A E → Result A E → Result O E → Type 0
Tells task (Ok a) outcome = IsOkAnd outcome (task.Says a)
Tells task (Err e) outcome = ErrorTells (task.cause e) e outcome

-- What a result says of all the bytes that a source reports. It follows from `Performs`, if bytes have one outcome and
-- bytes past the limit are rejected as too long.
pub record AnswersBytes {O A E S K : Type 0} (task : Task O A E) (left : S → Option (List ℕ)) (source_faults : S → ℕ)
    (taken : K → Option (List ℕ)) (sink_faults : K → ℕ)
    (source source' : S) (sink sink' : K) (answer : Result A E) : Type 0 where
  -- Ok only if the bytes have an output, and this was appended.
  pub ok : OnOk answer
      (IfSome (left source)
      (λ bytes. ComeTo task bytes (λ outcome. Appends (taken sink) (taken sink') (task.written outcome))))
  -- The bytes are rejected only if that is their outcome. Then they are always rejected, unless a read or a write
  -- failed or memory ran out. After Ok the returned value says of the outcome what it should.
  pub refused : IfErr answer (λ e. IsRefusal (task.cause e) →
      IfSome (left source) (λ bytes. task.HasOutcome bytes (Err e)))
  pub exactly : IfSome (left source) (λ bytes. (outcome : Result O E) → task.HasOutcome bytes outcome →
      Tells task answer outcome)
  -- After a failed write, a prefix of the output was appended.
  pub prefix : IsErrAnd answer (λ e. task.cause e ≡ write_failed)
      → IfSome (left source)
      (λ bytes. ComeTo task bytes (λ outcome. AppendsPrefix (taken sink) (taken sink') (task.written outcome)))
  -- Without a fault, bytes that are not rejected give Ok, or memory ran out.
  pub complete : ¬ FaultCounted (source_faults source) (source_faults source') →
      ¬ FaultCounted (sink_faults sink) (sink_faults sink')
      → IfSome (left source) (λ bytes. (outcome : O) → task.HasOutcome bytes (Ok outcome) →
      IsOk answer ⊎ IsErrAnd answer (λ e. task.cause e ≡ no_memory))

-- ---- the half that reads

-- What an error of reading says of the bytes that were read and of what is left. Nothing is left if the bytes
-- themselves are the cause.
abbrev pub ErrorFinds : {V E : Type 0} → ℕ → (List ℕ → Result V E → Type 0) → Cause → E → List ℕ →
    Option (List ℕ) → Type 0
ErrorFinds limit HasOutcome too_long e bytes left' = limit < length bytes
ErrorFinds limit HasOutcome refused e bytes left' = HasOutcome bytes (Err e) × IsAtEnd left'
ErrorFinds limit HasOutcome read_failed e bytes left' = ⊤
ErrorFinds limit HasOutcome write_failed e bytes left' = ⊥
ErrorFinds limit HasOutcome no_memory e bytes left' = ⊤

-- what a result says of them: the bytes have the value that was found, and nothing is left
abbrev pub Finds : {V E : Type 0} → ℕ → (E → Cause) → (List ℕ → Result V E → Type 0) → Result V E → List ℕ →
    Option (List ℕ) → Type 0
Finds limit cause HasOutcome (Ok v) bytes left' = HasOutcome bytes (Ok v) × IsAtEnd left'
Finds limit cause HasOutcome (Err e) bytes left' = ErrorFinds limit HasOutcome (cause e) e bytes left'

-- What a call does that reads bytes from a source to its end and finds a value of type V in them.
pub record Reads {V E S : Type 0} (limit : ℕ) (cause : E → Cause) (HasOutcome : List ℕ → Result V E → Type 0)
    (left : S → Option (List ℕ)) (faults : S → ℕ)
    (source source' : S) (result : Result V E) : Type 0 where
  -- Some bytes were read, at most one past the limit: the bytes of the value, or bytes that are rejected. If the source
  -- reports its bytes, these were the first.
  pub read : (bytes : List ℕ) × AreBytes bytes × (length bytes ≤ limit + 1) ×
      Consumes (left source) (left source') bytes
      × Finds limit cause HasOutcome result bytes (left source')
  -- A fault only if the source counted one, and then no other result.
  pub read_fault : IsErrAnd result (λ e. cause e ≡ read_failed) → FaultCounted (faults source) (faults source')
  pub uncounted : ¬ IsErrAnd result (λ e. cause e ≡ read_failed) → faults source' ≡ faults source
  pub later : faults source ≤ faults source'

-- ---- the half that writes

-- What a call does that writes bytes to a sink.
pub record WritesBytes {A E K : Type 0} (cause : E → Cause) (taken : K → Option (List ℕ)) (faults : K → ℕ)
    (sink sink' : K) (bytes : List ℕ) (answer : Result A E) : Type 0 where
  -- After Ok they were appended, and no fault was counted.
  pub ok : OnOk answer (Appends (taken sink) (taken sink') bytes)
  pub uncounted : OnOk answer (faults sink' ≡ faults sink)
  -- After a failed write a prefix of them was appended, and a fault was counted.
  pub prefix : IsErrAnd answer (λ e. cause e ≡ write_failed) → AppendsPrefix (taken sink) (taken sink') bytes
  pub write_fault : IsErrAnd answer (λ e. cause e ≡ write_failed) → FaultCounted (faults sink) (faults sink')
  -- Every other error is running out of memory, before the first written byte.
  pub unwritten : IfErr answer (λ e. cause e ≢ write_failed → (cause e ≡ no_memory) × (sink' ≡ sink))
  pub later : faults sink ≤ faults sink'
