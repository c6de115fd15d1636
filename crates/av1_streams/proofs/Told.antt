-- What an answer says of all the bytes that a source tells, from what the call does with those that it read.
use Rattle.std.proofs.Common.{◌≡◌, ◌≢◌, ◌⊎◌, inl, inr, ℕ, ◌+◌, ◌<◌, List, length, Option, Some, None, Result, Ok, Err, refl, subst, ap, ◌∙◌, arith}
use Rattle.std.proofs.Common.{length-append}
use Rattle.std.specs.Prelude.{OnOk, IfErr, IsOk, IsOkAnd, IsErrAnd, IfSome}
use Rattle.std.specs.Io.KnownBytes.{Appends, Consumes}
use Rattle.std.proofs.KnownBytes.{Consumes-whole}
use Rattle.std.proofs.lemmas.Option.{IfSome_then}
use Rattle.av1_streams.specs.Streams.{AppendsPrefix}
use Rattle.av1_streams.specs.Tasks.{Cause, too_long, refused, read_failed, write_failed, no_memory, Task, IsRefusal, ErrorTells, Tells, ErrorLeaves}
use Rattle.av1_streams.specs.Tasks.{LeavesSource, ComeTo, ErrorAnswers, Answers, Performs, AnswersBytes}
use Rattle.av1_streams.proofs.Performing.{IsSound}

-- ---- what holds of the bytes that were read, of those that the source told

pub any : (left : Option (List ℕ)) (P : List ℕ → Type 0) → ((bytes : List ℕ) → P bytes) → IfSome left P
any None P f = tt
any (Some bytes) P f = f bytes

-- a front that is too long makes the whole too long
longer : (limit : ℕ) (left left' : Option (List ℕ)) (bytes : List ℕ) (P : List ℕ → Type 0) → Consumes left left' bytes → limit < length bytes
    → ((told : List ℕ) → limit < length told → P told) → IfSome left P
longer limit None left' bytes P consumed over f = tt
longer limit (Some told) None bytes P consumed over f = absurd consumed
longer limit (Some told) (Some rest) bytes P consumed over f =
    let more : length told ≡ length bytes + length rest = ap length consumed ∙ length-append bytes rest in
    f told (omega (arith, over, more))

-- ---- an answer, and the outcome of bytes

module _ {O A E : Type 0} (task : Task O A E) (sound : IsSound task) where
  -- the outcome of bytes is what an error answers
  error_tells : (e : E) (cause : Cause) (bytes : List ℕ) (taken taken' : Option (List ℕ)) → ErrorAnswers task cause e bytes taken taken'
      → (outcome : Result O E) → task.HasOutcome bytes outcome → ErrorTells cause e outcome
  error_tells e too_long bytes taken taken' p outcome q = sound.one bytes outcome (Err e) q p
  error_tells e refused bytes taken taken' p outcome q = sound.one bytes outcome (Err e) q p
  error_tells e read_failed bytes taken taken' p outcome q = tt
  error_tells e write_failed bytes taken taken' (come, p, prefix) outcome q = subst IsOk (sound.one bytes (Ok come) outcome p q) refl
  error_tells e no_memory bytes taken taken' p outcome q = tt

  -- the outcome of bytes is what they were answered with
  tells : (answer : Result A E) (bytes : List ℕ) (taken taken' : Option (List ℕ)) → Answers task answer bytes taken taken'
      → (outcome : Result O E) → task.HasOutcome bytes outcome → Tells task answer outcome
  tells (Ok a) bytes taken taken' (come, p, done) outcome q = subst (λ r. IsOkAnd r (task.Says a)) (sound.one bytes (Ok come) outcome p q) done.0
  tells (Err e) bytes taken taken' p outcome q = error_tells e (task.cause e) bytes taken taken' p outcome q

-- what an error tells where no fault was counted
error_without_fault : {O E : Type 0} (e : E) (o : O) (cause : Cause) → ErrorTells {O = O} cause e (Ok o) → cause ≢ read_failed → cause ≢ write_failed →
    cause ≡ no_memory
error_without_fault e o too_long t a b = absurd cc
error_without_fault e o refused t a b = absurd cc
error_without_fault e o read_failed t a b = absurd (a refl)
error_without_fault e o write_failed t a b = absurd (b refl)
error_without_fault e o no_memory t a b = refl

module _ {O A E : Type 0} (task : Task O A E) where
  -- what the answer tells where no fault was counted
  without_fault : (answer : Result A E) (o : O) (R W : Type 0) → Tells task answer (Ok o) → (IsErrAnd answer (λ e. task.cause e ≡ read_failed) → R) →
      (IsErrAnd answer (λ e. task.cause e ≡ write_failed) → W)
      → (R → ⊥) → (W → ⊥) → IsOk answer ⊎ IsErrAnd answer (λ e. task.cause e ≡ no_memory)
  without_fault (Ok a) o R W t r w no_read no_write = inl refl
  without_fault (Err e) o R W t r w no_read no_write = inr (error_without_fault e o (task.cause e) t (λ h. no_read (r h)) (λ h. no_write (w h)))

-- ---- the whole call

module _ {O A E S K : Type 0} (task : Task O A E) (sound : IsSound task) (left : S → Option (List ℕ)) (source_faults : S → ℕ) (taken : K → Option (List ℕ))
    (sink_faults : K → ℕ) (source source' : S) (sink sink' : K) where
  abbrev from : Option (List ℕ)
  from = left source

  abbrev rest : Option (List ℕ)
  rest = left source'

  -- the bytes that an error refuses, of those that the source told
  error_refused : (e : E) (cause : Cause) → task.cause e ≡ cause → (bytes : List ℕ) → Consumes from rest bytes → ErrorLeaves cause task.limit from rest →
      ErrorAnswers task cause e bytes (taken sink) (taken sink') → IsRefusal cause → IfSome from (λ b. task.HasOutcome b (Err e))
  error_refused e too_long is bytes consumed (front, fits, long, goes) answers r =
      longer task.limit from rest front (λ b. task.HasOutcome b (Err e)) goes (omega (arith, long)) (λ b over. sound.long b e is over)
  error_refused e refused is bytes consumed end answers r = Consumes-whole from rest bytes (λ b. task.HasOutcome b (Err e)) consumed end answers
  error_refused e read_failed is bytes consumed end answers r = absurd r
  error_refused e write_failed is bytes consumed end answers r = absurd r
  error_refused e no_memory is bytes consumed end answers r = absurd r

  error_exactly : (e : E) (cause : Cause) → task.cause e ≡ cause → (bytes : List ℕ) → Consumes from rest bytes → ErrorLeaves cause task.limit from rest →
      ErrorAnswers task cause e bytes (taken sink) (taken sink') →
      IfSome from (λ b. (outcome : Result O E) → task.HasOutcome b outcome → ErrorTells cause e outcome)
  error_exactly e too_long is bytes consumed (front, fits, long, goes) answers =
      longer task.limit from rest front (λ b. (outcome : Result O E) → task.HasOutcome b outcome → outcome ≡ Err e) goes (omega (arith, long))
      (λ b over outcome q. sound.one b outcome (Err e) q (sound.long b e is over))
  error_exactly e refused is bytes consumed end answers =
      Consumes-whole from rest bytes (λ b. (outcome : Result O E) → task.HasOutcome b outcome → outcome ≡ Err e) consumed end
      (error_tells task sound e refused bytes (taken sink) (taken sink') answers)
  error_exactly e read_failed is bytes consumed end answers = any from (λ b. (outcome : Result O E) → task.HasOutcome b outcome → Unit) (λ b outcome q. tt)
  error_exactly e write_failed is bytes consumed end answers =
      Consumes-whole from rest bytes (λ b. (outcome : Result O E) → task.HasOutcome b outcome → IsOk outcome) consumed end
      (error_tells task sound e write_failed bytes (taken sink) (taken sink') answers)
  error_exactly e no_memory is bytes consumed end answers = any from (λ b. (outcome : Result O E) → task.HasOutcome b outcome → Unit) (λ b outcome q. tt)

  exactly : (answer : Result A E) (bytes : List ℕ) → Consumes from rest bytes → LeavesSource task answer from rest →
      Answers task answer bytes (taken sink) (taken sink') →
      IfSome from (λ b. (outcome : Result O E) → task.HasOutcome b outcome → Tells task answer outcome)
  exactly (Ok a) bytes consumed end answers =
      Consumes-whole from rest bytes (λ b. (outcome : Result O E) → task.HasOutcome b outcome → IsOkAnd outcome (task.Says a)) consumed end
      (tells task sound (Ok a) bytes (taken sink) (taken sink') answers)
  exactly (Err e) bytes consumed end answers = error_exactly e (task.cause e) refl bytes consumed end answers

  come_to : (answer : Result A E) (bytes : List ℕ) → Consumes from rest bytes → LeavesSource task answer from rest →
      Answers task answer bytes (taken sink) (taken sink')
      → OnOk answer (IfSome from (λ b. ComeTo task b (λ outcome. Appends (taken sink) (taken sink') (task.written outcome))))
  come_to (Ok a) bytes consumed end (outcome, come, done) =
      Consumes-whole from rest bytes (λ b. ComeTo task b (λ outcome. Appends (taken sink) (taken sink') (task.written outcome))) consumed end
      (outcome, come, done.1)
  come_to (Err e) bytes consumed end answers = tt

  refuses : (answer : Result A E) (bytes : List ℕ) → Consumes from rest bytes → LeavesSource task answer from rest →
      Answers task answer bytes (taken sink) (taken sink')
      → IfErr answer (λ e. IsRefusal (task.cause e) → IfSome from (λ b. task.HasOutcome b (Err e)))
  refuses (Ok a) bytes consumed end answers = tt
  refuses (Err e) bytes consumed end answers = error_refused e (task.cause e) refl bytes consumed end answers

  begins : (answer : Result A E) (bytes : List ℕ) → Consumes from rest bytes → LeavesSource task answer from rest →
      Answers task answer bytes (taken sink) (taken sink') → IsErrAnd answer (λ e. task.cause e ≡ write_failed)
      → IfSome from (λ b. ComeTo task b (λ outcome. AppendsPrefix (taken sink) (taken sink') (task.written outcome)))
  begins (Ok a) bytes consumed end answers h = absurd h
  begins (Err e) bytes consumed end answers h =
      Consumes-whole from rest bytes (λ b. ComeTo task b (λ outcome. AppendsPrefix (taken sink) (taken sink') (task.written outcome))) consumed
      (subst (λ (c : Cause). ErrorLeaves c task.limit from rest) h end)
      (subst (λ (c : Cause). ErrorAnswers task c e bytes (taken sink) (taken sink')) h answers)

  pub answers_bytes : (answer : Result A E) → Performs task left source_faults taken sink_faults source source' sink sink' answer →
      AnswersBytes task left source_faults taken sink_faults source source' sink sink' answer
  answers_bytes answer p =
      let (bytes, fits, short, consumed, answers) = p.read in
      let told = exactly answer bytes consumed p.leaves answers in
      record {
        ok = come_to answer bytes consumed p.leaves answers;
        refused = refuses answer bytes consumed p.leaves answers;
        exactly = told;
        prefix = begins answer bytes consumed p.leaves answers;
        complete = λ no_read no_write.
            IfSome_then from told
            (λ b f outcome q. without_fault task answer outcome _ _ (f (Ok outcome) q) p.read_fault p.write_fault no_read no_write);
      }
