-- What the call says that reads a sequence of frames and writes them in turn, from what reading and showing say.
use Rattle.std.proofs.Common.{◌≡◌, ◌≢◌, ◌⊎◌, inl, inr, ℕ, ◌+◌, ◌<◌, ◌≤◌, List, [], ◌++◌, length, length-append, Option, Some, None, Ok, Err, refl, sym, ap}
use Rattle.std.proofs.Common.{subst, ◌∙◌, arith}
use Rattle.std.specs.Prelude.{IfErr, IfSome, IsErrAnd, IsOk}
use Rattle.std.specs.Io.KnownBytes.{Appends, Consumes, IsAtEnd}
use Rattle.std.proofs.KnownBytes.{Appends-nil, Consumes-whole}
use Rattle.std.proofs.lemmas.Option.{IfSome_then}
use Rattle.av1_plan.specs.declared.error.PlanError.{PlanError}
use Rattle.av1_plan.specs.declared.error.PlanError.TheVariants as plan_errors
use Rattle.av1_plan.specs.Reading.{Fails}
use Rattle.av1_streams.specs.Faults.{FaultCounted}
use Rattle.av1_streams.specs.Streams.{Takes, TakesAtMost, max_plan_bytes}
use Rattle.av1_streams.specs.Tasks.{Cause, too_long, refused, read_failed, write_failed, no_memory, ErrorLeaves}
use Rattle.av1_streams.specs.declared.read.ReadError.{ReadError}
use Rattle.av1_streams.specs.declared.read.ReadError.TheVariants as read_errors
use Rattle.av1_streams.proofs.Performing.{is_err}
use Rattle.av1_streams.proofs.Told.{any}
use Rattle.av1_streams.proofs.Prefixes.{AppendsPrefix-first}
use Rattle.av1_streams.proofs.Reading.{AreReadWhole, read_err}
use Rattle.av1_sequence.specs.declared.error.SequenceError.{SequenceError}
use Rattle.av1_sequence.specs.declared.error.SequenceError.TheVariants as errors
use Rattle.av1_sequence.specs.Errors.{file_error, read_error}
use Rattle.av1_sequence.specs.Files.{Answer, AreFile, HasOutcome, beginning}
use Rattle.av1_sequence.specs.Grammar.{FileValue, read_file}
use Rattle.av1_sequence.specs.Tasks.{Answers, AnswersInTurn, ErrorAnswers, ErrorTells, IsBeforeFrames, LeavesSource, PerformsInTurn, Shows, Tells, cause_of}
use Rattle.av1_sequence.proofs.FileOutcomes.{answer_of, of_run, one_outcome}
use Rattle.av1_sequence.proofs.Parts.{parts_fit}
use Rattle.av1_sequence.proofs.Running.{some_after}
use Rattle.av1_sequence.proofs.Showing.{in_frames, no_read}

-- ---- an answer, and the outcome of bytes

error_tells : (e : SequenceError) (cause : Cause) (bytes : List ℕ) (a b : Option (List ℕ)) → ErrorAnswers cause e bytes a b →
    (written : List ℕ) (outcome : Answer) → HasOutcome bytes written outcome → ErrorTells cause e outcome
error_tells e too_long bytes a b (w, has, appended) written outcome q = (one_outcome bytes written w outcome (Err e) q has).0
error_tells e refused bytes a b (w, has, appended) written outcome q = (one_outcome bytes written w outcome (Err e) q has).0
error_tells e read_failed bytes a b given written outcome q = tt
error_tells e write_failed bytes a b given written outcome q = tt
error_tells e no_memory bytes a b given written outcome q = tt

tells : (answer : Answer) (bytes : List ℕ) (a b : Option (List ℕ)) → Answers answer bytes a b → (written : List ℕ) (outcome : Answer) →
    HasOutcome bytes written outcome → Tells answer outcome
tells (Ok done) bytes a b (w, has, appended) written outcome q = subst IsOk (sym (one_outcome bytes written w outcome (Ok done) q has).0) refl
tells (Err e) bytes a b given written outcome q = error_tells e (cause_of e) bytes a b given written outcome q

-- what an error tells where no fault was counted
error_without_fault : (e : SequenceError) (done : Unit {0}) (cause : Cause) → ErrorTells cause e (Ok done) → cause ≢ read_failed → cause ≢ write_failed →
    cause ≡ no_memory
error_without_fault e done too_long t no_read no_write = absurd cc
error_without_fault e done refused t no_read no_write = absurd cc
error_without_fault e done read_failed t no_read no_write = absurd (no_read refl)
error_without_fault e done write_failed t no_read no_write = absurd (no_write refl)
error_without_fault e done no_memory t no_read no_write = refl

without_fault : {R W : Type 0} (answer : Answer) (done : Unit {0}) → Tells answer (Ok done) → (IsErrAnd answer (λ e. cause_of e ≡ read_failed) → R) →
    (IsErrAnd answer (λ e. cause_of e ≡ write_failed) → W) → (R → ⊥) → (W → ⊥)
    → IsOk answer ⊎ IsErrAnd answer (λ e. cause_of e ≡ no_memory)
without_fault (Ok d) done t read write no_read no_write = inl refl
without_fault (Err e) done t read write no_read no_write =
    inr (error_without_fault e done (cause_of e) t (λ h. no_read (read h)) (λ h. no_write (write h)))

no_read_fault : {X : Type 0} (answer : Answer) → IfErr answer (λ e. (cause_of e ≢ read_failed) × (cause_of e ≢ too_long)) →
    IsErrAnd answer (λ e. cause_of e ≡ read_failed) → X
no_read_fault (Ok d) read h = absurd h
no_read_fault (Err e) read h = absurd (read.0 h)

error_leaves : (cause : Cause) (left left' : Option (List ℕ)) → cause ≢ too_long → IsAtEnd left' → ErrorLeaves cause max_plan_bytes left left'
error_leaves too_long left left' n end = absurd (n refl)
error_leaves refused left left' n end = end
error_leaves read_failed left left' n end = tt
error_leaves write_failed left left' n end = end
error_leaves no_memory left left' n end = tt

leaves_end : (answer : Answer) (left left' : Option (List ℕ)) → IfErr answer (λ e. (cause_of e ≢ read_failed) × (cause_of e ≢ too_long)) → IsAtEnd left' →
    LeavesSource answer left left'
leaves_end (Ok d) left left' read end = end
leaves_end (Err e) left left' read end = error_leaves (cause_of e) left left' read.1 end

-- what showing the frames of a sequence says of its bytes
answers_of : (bytes : List ℕ) (f : FileValue) → AreFile bytes f → (answer : Answer) (a b : Option (List ℕ)) → Shows f answer a b → Answers answer bytes a b
answers_of bytes f is (Ok done) a b (written, lead, appended) = (written, (f, is, lead), appended)
answers_of bytes f is (Err (errors.Frame i fault)) a b (written, first, appended) = (written, (f, is, first), appended)
answers_of bytes f is (Err (errors.EmptySlot i)) a b (written, first, appended) = (written, (f, is, first), appended)
answers_of bytes f is (Err errors.WriteFault) a b (written, (n, shown), prefix) =
    let (rest, (end, run)) = some_after (beginning f) f.entries n written shown.kept (parts_fit bytes f is) shown.lead in
    (written ++ rest, (answer_of end, of_run bytes (written ++ rest) f is end run, AppendsPrefix-first a b written rest (written ++ rest) refl prefix))
answers_of bytes f is (Err errors.Memory) a b (written, shown, appended) = (written, inr (f, is, shown), appended)
answers_of bytes f is (Err errors.ReadFault) a b shows = absurd shows
answers_of bytes f is (Err errors.TooLong) a b shows = absurd shows
answers_of bytes f is (Err (errors.Malformed at)) a b shows = absurd shows

-- bytes past the limit make the whole too long
past_limit : (left left' : Option (List ℕ)) (bytes : List ℕ) (P : List ℕ → Type 0) → Consumes left left' bytes → max_plan_bytes < length bytes
    → ((told : List ℕ) → max_plan_bytes < length told → P told) → IfSome left P
past_limit None left' bytes P consumed over f = tt
past_limit (Some told) None bytes P consumed over f = absurd consumed
past_limit (Some told) (Some rest) bytes P consumed over f =
    let more : length told ≡ length bytes + length rest = ap length consumed ∙ length-append bytes rest in
    f told (omega (arith, over, more))

-- ---- the call

module _ {S K : Type 0} (left : S → Option (List ℕ)) (source_faults : S → ℕ) (taken : K → Option (List ℕ)) (sink_faults : K → ℕ) where
  -- the bytes were read to their end, and answered
  answered : (source source' : S) (sink sink' : K) (bytes : List ℕ) (answer : Answer) → AreReadWhole max_plan_bytes left source_faults source source' bytes →
      Answers answer bytes (taken sink) (taken sink')
      → IfErr answer (λ e. (cause_of e ≢ read_failed) × (cause_of e ≢ too_long)) →
      (IsErrAnd answer (λ e. cause_of e ≡ write_failed) → FaultCounted (sink_faults sink) (sink_faults sink'))
      → (¬ IsErrAnd answer (λ e. cause_of e ≡ write_failed) → sink_faults sink' ≡ sink_faults sink)
      → (IsErrAnd answer IsBeforeFrames → sink' ≡ sink) → sink_faults sink ≤ sink_faults sink' →
      PerformsInTurn left source_faults taken sink_faults source source' sink sink' answer
  answered source source' sink sink' bytes answer whole given read counted uncounted unwritten later = record {
    read = (bytes, whole.fits, omega (arith, whole.short), whole.consumed, given);
    leaves = leaves_end answer (left source) (left source') read whole.end;
    unwritten = unwritten;
    memory = λ h. inl whole.end;
    read_fault = no_read_fault answer read;
    source_uncounted = λ other. whole.uncounted;
    write_fault = counted;
    sink_uncounted = uncounted;
    source_later = omega (arith, whole.uncounted);
    sink_later = later;
  }

  -- the frames were shown, up to one that was not
  pub shows : (source source' : S) (sink sink' : K) (bytes : List ℕ) (f : FileValue) (answer : Answer) →
      AreReadWhole max_plan_bytes left source_faults source source' bytes → AreFile bytes f
      → Shows f answer (taken sink) (taken sink') → (IsErrAnd answer (λ e. cause_of e ≡ write_failed) → FaultCounted (sink_faults sink) (sink_faults sink'))
      → (¬ IsErrAnd answer (λ e. cause_of e ≡ write_failed) → sink_faults sink' ≡ sink_faults sink) → sink_faults sink ≤ sink_faults sink'
      → PerformsInTurn left source_faults taken sink_faults source source' sink sink' answer
  shows source source' sink sink' bytes f answer whole is shown counted uncounted later =
      answered source source' sink sink' bytes answer whole (answers_of bytes f is answer (taken sink) (taken sink') shown)
      (no_read f answer (taken sink) (taken sink') shown) counted uncounted
      (in_frames f answer (taken sink) (taken sink') shown) later

  -- the bytes are no sequence
  not_file_as : (source source' : S) (sink : K) (bytes : List ℕ) (e : PlanError) → AreReadWhole max_plan_bytes left source_faults source source' bytes →
      Fails e (read_file bytes)
      → PerformsInTurn left source_faults taken sink_faults source source' sink sink (Err (file_error e))
  not_file_as source source' sink bytes (plan_errors.Malformed at) whole fails =
      answered source source' sink sink bytes (Err (errors.Malformed at)) whole ([], (whole.short, fails, refl), Appends-nil (taken sink))
      (λ h. absurd cc, λ h. absurd cc) (λ h. absurd cc) (λ other. refl) (λ h. refl) (omega arith)
  not_file_as source source' sink bytes plan_errors.Memory whole fails =
      answered source source' sink sink bytes (Err errors.Memory) whole ([], inl refl, Appends-nil (taken sink)) (λ h. absurd cc, λ h. absurd cc)
      (λ h. absurd cc) (λ other. refl) (λ h. refl) (omega arith)

  pub not_file : (source source' : S) (sink : K) (bytes : List ℕ) (answer : Answer) (e : PlanError) → IsErrAnd answer (λ d. d ≡ file_error e) →
      AreReadWhole max_plan_bytes left source_faults source source' bytes
      → Fails e (read_file bytes) → PerformsInTurn left source_faults taken sink_faults source source' sink sink answer
  not_file source source' sink bytes answer e is whole fails =
      subst (PerformsInTurn left source_faults taken sink_faults source source' sink sink) (sym (is_err answer (file_error e) is))
      (not_file_as source source' sink bytes e whole fails)

  -- the bytes were not read
  unread_as : (source source' : S) (sink : K) (e : ReadError) → TakesAtMost (max_plan_bytes + 1) (left source) (left source') →
      source_faults source ≤ source_faults source'
      → (e ≡ read_errors.ReadFault → FaultCounted (source_faults source) (source_faults source'))
      → (¬ (read_err e ≡ read_err read_errors.ReadFault) → source_faults source' ≡ source_faults source) →
      (e ≡ read_errors.TooLong → Takes (max_plan_bytes + 1) (left source) (left source'))
      → PerformsInTurn left source_faults taken sink_faults source source' sink sink (Err (read_error e))
  unread_as source source' sink read_errors.ReadFault (bytes, fits, short, consumed) later counted uncounted takes = record {
    read = (bytes, fits, short, consumed, tt);
    leaves = tt;
    unwritten = λ h. refl;
    memory = λ h. inr refl;
    read_fault = λ h. counted refl;
    source_uncounted = λ other. absurd (other refl);
    write_fault = λ h. absurd cc;
    sink_uncounted = λ other. refl;
    source_later = later;
    sink_later = omega arith;
  }
  unread_as source source' sink read_errors.Memory (bytes, fits, short, consumed) later counted uncounted takes = record {
    read = (bytes, fits, short, consumed, ([], inl refl, Appends-nil (taken sink)));
    leaves = tt;
    unwritten = λ h. refl;
    memory = λ h. inr refl;
    read_fault = λ h. absurd cc;
    source_uncounted = λ other. uncounted (λ h. absurd cc);
    write_fault = λ h. absurd cc;
    sink_uncounted = λ other. refl;
    source_later = later;
    sink_later = omega arith;
  }
  unread_as source source' sink read_errors.TooLong most later counted uncounted takes =
      let (bytes, fits, long, consumed) = takes refl in
      let over : max_plan_bytes < length bytes = omega (arith, long) in
      record {
        read = (bytes, fits, omega (arith, long), consumed, ([], (over, refl), Appends-nil (taken sink)));
        leaves = takes refl;
        unwritten = λ h. refl;
        memory = λ h. absurd cc;
        read_fault = λ h. absurd cc;
        source_uncounted = λ other. uncounted (λ h. absurd cc);
        write_fault = λ h. absurd cc;
        sink_uncounted = λ other. refl;
        source_later = later;
        sink_later = omega arith;
      }

  pub unread : (source source' : S) (sink : K) (answer : Answer) (e : ReadError) → IsErrAnd answer (λ d. d ≡ read_error e) →
      TakesAtMost (max_plan_bytes + 1) (left source) (left source') → source_faults source ≤ source_faults source'
      → (e ≡ read_errors.ReadFault → FaultCounted (source_faults source) (source_faults source'))
      → (¬ (read_err e ≡ read_err read_errors.ReadFault) → source_faults source' ≡ source_faults source) →
      (e ≡ read_errors.TooLong → Takes (max_plan_bytes + 1) (left source) (left source'))
      → PerformsInTurn left source_faults taken sink_faults source source' sink sink answer
  unread source source' sink answer e is most later counted uncounted takes =
      subst (PerformsInTurn left source_faults taken sink_faults source source' sink sink) (sym (is_err answer (read_error e) is))
      (unread_as source source' sink e most later counted uncounted takes)

  -- ---- bytes that the source tells

  module _ (source source' : S) (sink sink' : K) where
    abbrev Does : Answer → Type 0
    Does answer = PerformsInTurn left source_faults taken sink_faults source source' sink sink' answer

    abbrev Told : Answer → Type 0
    Told answer = IfSome (left source) (λ bytes. Answers answer bytes (taken sink) (taken sink'))

    -- they are those that were read, where nothing is left
    told_at_end : (answer : Answer) → Does answer → IsAtEnd (left source') → Told answer
    told_at_end answer p end =
        let (bytes, fits, short, consumed, given) = p.read in
        Consumes-whole (left source) (left source') bytes (λ b. Answers answer b (taken sink) (taken sink')) consumed end given

    told : (answer : Answer) → Does answer → Told answer
    told (Ok done) p = told_at_end (Ok done) p p.leaves
    told (Err errors.ReadFault) p = any (left source) (λ b. Answers (Err errors.ReadFault) b (taken sink) (taken sink')) (λ b. tt)
    told (Err errors.TooLong) p =
        let (bytes, fits, short, consumed, (written, (over, none), appended)) = p.read in
        past_limit (left source) (left source') bytes (λ b. Answers (Err errors.TooLong) b (taken sink) (taken sink')) consumed over
        (λ b more. (written, (more, none), appended))
    told (Err (errors.Malformed at)) p = told_at_end (Err (errors.Malformed at)) p p.leaves
    told (Err (errors.Frame i fault)) p = told_at_end (Err (errors.Frame i fault)) p p.leaves
    told (Err (errors.EmptySlot i)) p = told_at_end (Err (errors.EmptySlot i)) p p.leaves
    told (Err errors.WriteFault) p = told_at_end (Err errors.WriteFault) p p.leaves
    told (Err errors.Memory) p = elim (p.memory refl) [
      | inl end ↦ told_at_end (Err errors.Memory) p end
      | inr same ↦ any (left source) (λ b. Answers (Err errors.Memory) b (taken sink) (taken sink'))
          (λ b. ([], inl refl, subst (λ (k : K). Appends (taken sink) (taken k) []) (sym same) (Appends-nil (taken sink))))
    ]

    -- what the call answers of all the bytes that the source tells
    pub answers_in_turn : (answer : Answer) → Does answer → AnswersInTurn left source_faults taken sink_faults source source' sink sink' answer
    answers_in_turn answer p =
        let exact : IfSome (left source) (λ bytes. (written : List ℕ) (outcome : Answer) → HasOutcome bytes written outcome → Tells answer outcome) =
        IfSome_then (left source) (told answer p) (λ bytes given. tells answer bytes (taken sink) (taken sink') given) in
        record {
          answers = told answer p;
          exactly = exact;
          complete = λ no_read no_write. IfSome_then (left source) exact
              (λ bytes f written done q. without_fault answer done (f written (Ok done) q) p.read_fault p.write_fault no_read no_write);
        }
