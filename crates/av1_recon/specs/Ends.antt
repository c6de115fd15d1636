-- The exit status and the line of any call that reads bytes and writes their outcome, and what the status says.
use Rattle.std.specs.Prelude.{◌≡◌, ◌⊎◌, ℕ, List, [], Option, Result, Ok, Err, IfSome}
use Rattle.std.specs.Io.KnownBytes.{Appends}
use Rattle.av1_streams.specs.Faults.{FaultCounted}
use Rattle.av1_streams.specs.Streams.{AppendsPrefix}
use Rattle.av1_streams.specs.Tasks.{Cause, read_failed, too_long, refused, write_failed, no_memory, Task, ComeTo}

-- ---- of a result

-- the exit status of an error, by its cause
abbrev pub error_status : Cause → ℕ
error_status too_long = 2
error_status refused = 2
error_status no_memory = 3
error_status read_failed = 4
error_status write_failed = 5

-- the exit status of a result; `done` gives the status of a call that succeeded
abbrev pub answer_status : {A E : Type 0} → (E → Cause) → (A → ℕ) → Result A E → ℕ
answer_status cause done (Ok a) = done a
answer_status cause done (Err e) = error_status (cause e)

-- everything was written
abbrev pub written : Unit {0} → ℕ
written done = 0

-- the status of success, if there is only one
abbrev pub IsDone : ℕ → Type 0
IsDone status = status ≡ 0

-- the line for a result, none for Ok
abbrev pub answer_line : {A E : Type 0} → (E → List ℕ) → Result A E → List ℕ
answer_line line (Ok a) = []
answer_line line (Err e) = line e

-- ---- what the status says

-- What the exit status says of the bytes and of the output; `IsSuccess` holds for the statuses of success.
pub record EndsWith {O A E S K : Type 0} (IsSuccess : ℕ → Type 0) (task : Task O A E) (left : S → Option (List ℕ))
    (source_faults : S → ℕ) (taken : K → Option (List ℕ)) (sink_faults : K → ℕ)
    (source source' : S) (sink sink' : K) (status : ℕ) : Type 0 where
  -- Success: the output of the bytes was appended.
  pub done : IsSuccess status →
      IfSome (left source)
      (λ bytes. ComeTo task bytes (λ outcome. Appends (taken sink) (taken sink') (task.written outcome)))
  -- 2: the bytes are rejected, and nothing was written.
  pub refused : status ≡ 2 → IfSome (left source) (λ bytes. (e : E) × task.HasOutcome bytes (Err e)) × (sink' ≡ sink)
  -- 3: memory ran out, and nothing was written.
  pub memory : status ≡ 3 → sink' ≡ sink
  -- 4: a read failed, and nothing was written.
  pub read_fault : status ≡ 4 → FaultCounted (source_faults source) (source_faults source') × (sink' ≡ sink)
  -- 5: a write failed, and a prefix of the output was appended.
  pub write_fault : status ≡ 5 → FaultCounted (sink_faults sink) (sink_faults sink')
      × IfSome (left source)
      (λ bytes. ComeTo task bytes (λ outcome. AppendsPrefix (taken sink) (taken sink') (task.written outcome)))
  pub no_other : IsSuccess status ⊎ ((status ≡ 2) ⊎ ((status ≡ 3) ⊎ ((status ≡ 4) ⊎ (status ≡ 5))))
  -- Without a fault, bytes that are not rejected give success, or memory ran out. Bytes that are rejected never do.
  pub complete : ¬ FaultCounted (source_faults source) (source_faults source') →
      ¬ FaultCounted (sink_faults sink) (sink_faults sink')
      → IfSome (left source) (λ bytes. (outcome : O) → task.HasOutcome bytes (Ok outcome) →
      IsSuccess status ⊎ (status ≡ 3))
  pub refuses : IfSome (left source) (λ bytes. (e : E) → task.HasOutcome bytes (Err e) →
      (status ≡ 2) ⊎ ((status ≡ 3) ⊎ (status ≡ 4)))

-- What the exit status says of a call that reads nothing and writes bytes for which `IsMade` holds.
pub record EndsMade {K : Type 0} (IsMade : List ℕ → Type 0) (taken : K → Option (List ℕ)) (faults : K → ℕ)
    (sink sink' : K) (status : ℕ) : Type 0 where
  -- 0: they were appended.
  pub done : status ≡ 0 → (bytes : List ℕ) × IsMade bytes × Appends (taken sink) (taken sink') bytes
  -- 3: memory ran out, and nothing was written.
  pub memory : status ≡ 3 → sink' ≡ sink
  -- 5: a write failed, and a prefix of them was appended.
  pub write_fault : status ≡ 5 → FaultCounted (faults sink) (faults sink')
      × ((bytes : List ℕ) × IsMade bytes × AppendsPrefix (taken sink) (taken sink') bytes)
  pub no_other : (status ≡ 0) ⊎ ((status ≡ 3) ⊎ (status ≡ 5))
  -- Without a fault they are written, or memory ran out.
  pub complete : ¬ FaultCounted (faults sink) (faults sink') → (status ≡ 0) ⊎ (status ≡ 3)
