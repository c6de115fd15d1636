-- What the exit status says of a sequence of frames and of the output.
use Rattle.std.specs.Prelude.{◌≡◌, ◌⊎◌, ℕ, List, Option, Ok, Err, IfSome}
use Rattle.std.specs.Io.KnownBytes.{Appends}
use Rattle.av1_sequence.specs.declared.error.SequenceError.{SequenceError}
use Rattle.av1_sequence.specs.Files.{Answer, AreWholeFrames, HasOutcome}
use Rattle.av1_streams.specs.Faults.{FaultCounted}
use Rattle.av1_streams.specs.Streams.{AppendsPrefix}

pub record EndsInTurn {S K : Type 0} (left : S → Option (List ℕ)) (source_faults : S → ℕ) (taken : K → Option (List ℕ))
    (sink_faults : K → ℕ) (source source' : S) (sink sink' : K) (status : ℕ) : Type 0 where
  -- 0: no entry is rejected, and the planes of all shown frames were appended.
  pub done : status ≡ 0 →
      IfSome (left source)
      (λ bytes. (written : List ℕ) × HasOutcome bytes written (Ok tt) × Appends (taken sink) (taken sink') written)
  -- 2: the bytes are rejected, and the planes of the frames that are shown before the rejected entry were appended.
  pub refused : status ≡ 2 →
      IfSome (left source)
      (λ bytes. (e : SequenceError) ×
      ((written : List ℕ) × HasOutcome bytes written (Err e) × Appends (taken sink) (taken sink') written))
  -- 3: memory ran out, and the planes of the first shown frames were appended, each whole.
  pub memory : status ≡ 3 →
      IfSome (left source)
      (λ bytes. (written : List ℕ) × AreWholeFrames bytes written × Appends (taken sink) (taken sink') written)
  -- 4: a read failed, before anything was written.
  pub read_fault : status ≡ 4 → FaultCounted (source_faults source) (source_faults source') × (sink' ≡ sink)
  -- 5: a write failed, and a prefix of the output of the bytes was appended.
  pub write_fault : status ≡ 5 → FaultCounted (sink_faults sink) (sink_faults sink')
      × IfSome (left source)
      (λ bytes. (written : List ℕ) ×
      ((outcome : Answer) × HasOutcome bytes written outcome × AppendsPrefix (taken sink) (taken sink') written))
  -- The status is never 1, which is for arguments that are not a tool's name, nor 7, which is for traces.
  pub no_other : (status ≡ 0) ⊎ ((status ≡ 2) ⊎ ((status ≡ 3) ⊎ ((status ≡ 4) ⊎ (status ≡ 5))))
  -- Without a fault, bytes without a rejected entry give 0, unless memory ran out. Rejected bytes never give 0.
  pub complete : ¬ FaultCounted (source_faults source) (source_faults source') →
      ¬ FaultCounted (sink_faults sink) (sink_faults sink')
      → IfSome (left source) (λ bytes. (written : List ℕ) (done : Unit {0}) → HasOutcome bytes written (Ok done) →
      (status ≡ 0) ⊎ (status ≡ 3))
  pub refuses : IfSome (left source) (λ bytes. (written : List ℕ) (e : SequenceError) →
      HasOutcome bytes written (Err e) → (status ≡ 2) ⊎ ((status ≡ 3) ⊎ ((status ≡ 4) ⊎ (status ≡ 5))))
