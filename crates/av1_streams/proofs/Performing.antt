-- What a call does that reads bytes and writes of them, from what reading and writing do.
use Rattle.std.proofs.Common.{◌≡◌, ◌≢◌, ℕ, ◌+◌, ◌<◌, ◌≤◌, List, length, Option, Result, Ok, Err, refl, ap, subst, arith}
use Rattle.std.specs.Prelude.{OnOk, IfOk, IfErr, IsErrAnd}
use Rattle.std.specs.Io.KnownBytes.{Consumes, IsAtEnd}
use Rattle.av1_streams.specs.Faults.{FaultCounted}
use Rattle.av1_streams.specs.Streams.{AreBytes, AppendsPrefix}
use Rattle.av1_streams.specs.Tasks.{Cause, too_long, refused, read_failed, write_failed, no_memory, Task, ErrorLeaves}
use Rattle.av1_streams.specs.Tasks.{LeavesSource, ErrorAnswers, Answers, Performs, ErrorFinds, Reads, WritesBytes}

-- ---- what a task has to be

-- what is asked of a task: bytes come to one outcome, and those past the limit are refused for that
pub record IsSound {O A E : Type 0} (task : Task O A E) : Type 0 where
  pub one : (bytes : List ℕ) (a b : Result O E) → task.HasOutcome bytes a → task.HasOutcome bytes b → a ≡ b
  pub long : (bytes : List ℕ) (e : E) → task.cause e ≡ too_long → task.limit < length bytes → task.HasOutcome bytes (Err e)

-- ---- what is left

-- what is left where the bytes were read to their end
error_leaves : (cause : Cause) (limit : ℕ) (left left' : Option (List ℕ)) → cause ≢ too_long → IsAtEnd left' → ErrorLeaves cause limit left left'
error_leaves too_long limit left left' n end = absurd (n refl)
error_leaves refused limit left left' n end = end
error_leaves read_failed limit left left' n end = tt
error_leaves write_failed limit left left' n end = end
error_leaves no_memory limit left left' n end = tt

-- an error's fact by another
if_err : {X E : Type 0} {P Q : E → Type 0} (answer : Result X E) → ((e : E) → P e → Q e) → IfErr answer P → IfErr answer Q
if_err (Ok done) f p = tt
if_err (Err e) f p = f e p

module _ {O A E : Type 0} (task : Task O A E) where
  -- reading that ended did not fail
  no_read_fault : {X : Type 0} (answer : Result A E) → IfErr answer (λ e. (task.cause e ≢ read_failed) × (task.cause e ≢ too_long)) →
      IsErrAnd answer (λ e. task.cause e ≡ read_failed) → X
  no_read_fault (Ok a) n h = absurd h
  no_read_fault (Err e) n h = absurd (n.0 h)

  leaves_end : (answer : Result A E) (left left' : Option (List ℕ)) → IfErr answer (λ e. task.cause e ≢ too_long) → IsAtEnd left' →
      LeavesSource task answer left left'
  leaves_end (Ok a) left left' n end = end
  leaves_end (Err e) left left' n end = error_leaves (task.cause e) task.limit left left' n end

-- the count of a sink's faults stays where no write is blamed
kept_count : {A E K : Type 0} (faults : K → ℕ) (cause : E → Cause) (sink sink' : K) (answer : Result A E) → OnOk answer (faults sink' ≡ faults sink) →
    IfErr answer (λ e. cause e ≢ write_failed → sink' ≡ sink)
    → ¬ IsErrAnd answer (λ e. cause e ≡ write_failed) → faults sink' ≡ faults sink
kept_count faults cause sink sink' (Ok a) same unwritten other = same
kept_count faults cause sink sink' (Err e) same unwritten other = ap faults (unwritten other)

-- ---- the whole call

module _ {O A E S K : Type 0} (task : Task O A E) (left : S → Option (List ℕ)) (source_faults : S → ℕ) (taken : K → Option (List ℕ)) (sink_faults : K → ℕ) where
  -- the bytes were read to their end, and answered
  pub performs : (source source' : S) (sink sink' : K) (bytes : List ℕ) (answer : Result A E)
      → AreBytes bytes → length bytes ≤ task.limit + 1 → Consumes (left source) (left source') bytes → IsAtEnd (left source') →
      source_faults source' ≡ source_faults source
      → Answers task answer bytes (taken sink) (taken sink')
      → IfErr answer (λ e. (task.cause e ≢ read_failed) × (task.cause e ≢ too_long))
      → (IsErrAnd answer (λ e. task.cause e ≡ write_failed) → FaultCounted (sink_faults sink) (sink_faults sink'))
      → OnOk answer (sink_faults sink' ≡ sink_faults sink)
      → IfErr answer (λ e. task.cause e ≢ write_failed → sink' ≡ sink)
      → sink_faults sink ≤ sink_faults sink'
      → Performs task left source_faults taken sink_faults source source' sink sink' answer
  performs source source' sink sink' bytes answer fits short consumed end source_same answered read counted sink_same unwritten sink_later = record {
    read = (bytes, fits, short, consumed, answered);
    leaves = leaves_end task answer (left source) (left source') (if_err answer (λ e n. n.1) read) end;
    unwritten = unwritten;
    read_fault = no_read_fault task answer read;
    source_uncounted = λ other. source_same;
    write_fault = counted;
    sink_uncounted = kept_count sink_faults task.cause sink sink' answer sink_same unwritten;
    source_later = omega (arith, source_same);
    sink_later = sink_later;
  }

-- ---- bytes that were not answered

module _ {O A V E : Type 0} (task : Task O A E) (sound : IsSound task) (Found : List ℕ → Result V E → Type 0)
    (same : (bytes : List ℕ) (e : E) → Found bytes (Err e) → task.HasOutcome bytes (Err e)) where
  -- an error of reading answers the bytes
  error_answers : (e : E) (cause : Cause) → task.cause e ≡ cause → (bytes : List ℕ) (left' taken taken' : Option (List ℕ)) →
      ErrorFinds task.limit Found cause e bytes left' → ErrorAnswers task cause e bytes taken taken'
  error_answers e too_long is bytes left' taken taken' found = sound.long bytes e is found
  error_answers e refused is bytes left' taken taken' found = same bytes e found.0
  error_answers e read_failed is bytes left' taken taken' found = tt
  error_answers e write_failed is bytes left' taken taken' found = absurd found
  error_answers e no_memory is bytes left' taken taken' found = tt

  error_takes : (e : E) (cause : Cause) (bytes : List ℕ) (left left' : Option (List ℕ)) → AreBytes bytes → length bytes ≤ task.limit + 1 →
      Consumes left left' bytes → ErrorFinds task.limit Found cause e bytes left'
      → ErrorLeaves cause task.limit left left'
  error_takes e too_long bytes left left' fits short consumed found = (bytes, fits, omega (arith, short, found), consumed)
  error_takes e refused bytes left left' fits short consumed found = found.1
  error_takes e read_failed bytes left left' fits short consumed found = tt
  error_takes e write_failed bytes left left' fits short consumed found = absurd found
  error_takes e no_memory bytes left left' fits short consumed found = tt

  no_write_fault : {X : Type 0} (e : E) (bytes : List ℕ) (left' : Option (List ℕ)) → ErrorFinds task.limit Found (task.cause e) e bytes left' →
      task.cause e ≡ write_failed → X
  no_write_fault e bytes left' found h = absurd (subst (λ (c : Cause). ErrorFinds task.limit Found c e bytes left') h found)

  -- reading found nothing, and nothing was written
  pub stops : {S K : Type 0} (left : S → Option (List ℕ)) (source_faults : S → ℕ) (taken : K → Option (List ℕ)) (sink_faults : K → ℕ) (source source' : S)
      (sink : K) (e : E)
      → Reads task.limit task.cause Found left source_faults source source' (Err e) →
      Performs task left source_faults taken sink_faults source source' sink sink (Err e)
  stops left source_faults taken sink_faults source source' sink e reads =
      let (bytes, fits, short, consumed, found) = reads.read in
      record {
        read = (bytes, fits, short, consumed, error_answers e (task.cause e) refl bytes (left source') (taken sink) (taken sink) found);
        leaves = error_takes e (task.cause e) bytes (left source) (left source') fits short consumed found;
        unwritten = λ h. refl;
        read_fault = reads.read_fault;
        source_uncounted = reads.uncounted;
        write_fault = no_write_fault e bytes (left source') found;
        sink_uncounted = λ other. refl;
        source_later = reads.later;
        sink_later = omega arith;
      }

-- a result that is an error of this kind
pub is_err : {X E : Type 0} (result : Result X E) (d : E) → IsErrAnd result (λ e. e ≡ d) → result ≡ Err d
is_err (Ok x) d h = absurd h
is_err {X} {E} (Err e) d h = ap (λ (x : E). let y : Result X E = Err x in y) h

-- ---- bytes in which a value was found

module _ {O A E : Type 0} (task : Task O A E) where
  -- writing has no errors of reading
  error_of_writing : {X : Type 0} (cause : Cause) → (cause ≢ write_failed → (cause ≡ no_memory) × X) → (cause ≢ read_failed) × (cause ≢ too_long)
  error_of_writing too_long w = let memory : too_long ≡ no_memory = (w (λ h. absurd cc)).0 in absurd cc
  error_of_writing read_failed w = let memory : read_failed ≡ no_memory = (w (λ h. absurd cc)).0 in absurd cc
  error_of_writing refused w = (λ h. absurd cc, λ h. absurd cc)
  error_of_writing write_failed w = (λ h. absurd cc, λ h. absurd cc)
  error_of_writing no_memory w = (λ h. absurd cc, λ h. absurd cc)

  error_written : {X : Type 0} (e : E) (outcome : O) (cause : Cause) (bytes : List ℕ) (taken taken' : Option (List ℕ)) → task.HasOutcome bytes (Ok outcome)
      → (cause ≡ write_failed → AppendsPrefix taken taken' (task.written outcome)) → (cause ≢ write_failed → (cause ≡ no_memory) × X) →
      ErrorAnswers task cause e bytes taken taken'
  error_written e outcome too_long bytes taken taken' come prefix w = let memory : too_long ≡ no_memory = (w (λ h. absurd cc)).0 in absurd cc
  error_written e outcome refused bytes taken taken' come prefix w = let memory : refused ≡ no_memory = (w (λ h. absurd cc)).0 in absurd cc
  error_written e outcome read_failed bytes taken taken' come prefix w = tt
  error_written e outcome write_failed bytes taken taken' come prefix w = (outcome, come, prefix refl)
  error_written e outcome no_memory bytes taken taken' come prefix w = tt

  -- what was written of an outcome answers the bytes
  answered_by : {K : Type 0} (taken : K → Option (List ℕ)) (faults : K → ℕ) (sink sink' : K) (bytes : List ℕ) (outcome : O) (answer : Result A E) →
      task.HasOutcome bytes (Ok outcome)
      → IfOk answer (λ a. task.Says a outcome) → WritesBytes task.cause taken faults sink sink' (task.written outcome) answer →
      Answers task answer bytes (taken sink) (taken sink')
  answered_by taken faults sink sink' bytes outcome (Ok a) come says w = (outcome, come, (says, w.ok))
  answered_by taken faults sink sink' bytes outcome (Err e) come says w =
      error_written e outcome (task.cause e) bytes (taken sink) (taken sink') come w.prefix w.unwritten

  -- a value was found, and what is written of its outcome was written
  pub carries_on : {V S K : Type 0} → (Found : List ℕ → Result V E → Type 0) (left : S → Option (List ℕ)) (source_faults : S → ℕ)
      (taken : K → Option (List ℕ)) (sink_faults : K → ℕ)
      (source source' : S) (sink sink' : K) (v : V) (outcome : O) (answer : Result A E)
      → ((bytes : List ℕ) → Found bytes (Ok v) → task.HasOutcome bytes (Ok outcome)) → IfOk answer (λ a. task.Says a outcome)
      → Reads task.limit task.cause Found left source_faults source source' (Ok v) →
      WritesBytes task.cause taken sink_faults sink sink' (task.written outcome) answer
      → Performs task left source_faults taken sink_faults source source' sink sink' answer
  carries_on Found left source_faults taken sink_faults source source' sink sink' v outcome answer come says reads w =
      let (bytes, fits, short, consumed, (found, end)) = reads.read in
      performs task left source_faults taken sink_faults source source' sink sink' bytes answer fits short consumed end (reads.uncounted (λ h. absurd h))
      (answered_by taken sink_faults sink sink' bytes outcome answer (come bytes found) says w)
      (if_err answer (λ e u. error_of_writing (task.cause e) u) w.unwritten)
      w.write_fault w.uncounted (if_err answer (λ e u n. (u n).1) w.unwritten) w.later
