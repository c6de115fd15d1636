-- The outcome of a plan's bytes, and what a call does that reads them from a source and writes it to a sink.
use Rattle.std.specs.Prelude.{◌≡◌, ℕ, ◌<◌, ◌≤◌, List, length, Option, Some, None, Result, Ok, Err, IfSome, ⊤}
use Rattle.av1_plan.specs.Grammar.{plan}
use Rattle.av1_plan.specs.Plan.{PlanValue}
use Rattle.av1_plan.specs.Spelling.{AreText, AreRefused}
use Rattle.av1_plan.specs.Validity.{first_fault}
use Rattle.av1_streams.specs.Streams.{max_plan_bytes}
use Rattle.av1_streams.specs.Tasks.{Cause, too_long, refused, read_failed, write_failed, no_memory, Task, Performs}
use Rattle.av1_tile.specs.Output.{planes_of}
use Rattle.av1_recon.specs.declared.error.ReconError.{ReconError}
use Rattle.av1_recon.specs.declared.error.ReconError.TheVariants.{ReadFault, TooLong, Malformed, Invalid as InvalidLeaf}
use Rattle.av1_recon.specs.declared.error.ReconError.TheVariants.{WriteFault, Memory}

-- the bytes that should be written, or why there are none
abbrev pub Outcome : Type 0
Outcome = Result (List ℕ) ReconError

-- what a call returns
abbrev pub Answer : Type 0
Answer = Result (Unit {0}) ReconError

-- ---- the outcome of bytes

-- the bytes are the text of this plan, and no longer than a plan may be
abbrev pub ArePlan : List ℕ → PlanValue → Type 0
ArePlan bytes value = (length bytes ≤ max_plan_bytes) × AreText plan bytes value

-- Why bytes are rejected: they are too long, or not the text of a plan, or the text of a plan whose first faulty leaf
-- has this fault.
abbrev pub AreRefusedFor : List ℕ → ReconError → Type 0
AreRefusedFor bytes TooLong = max_plan_bytes < length bytes
AreRefusedFor bytes (Malformed at) = (length bytes ≤ max_plan_bytes) × AreRefused plan bytes at
AreRefusedFor bytes (InvalidLeaf leaf kind) = (value : PlanValue) × ArePlan bytes value ×
    (first_fault value ≡ Some (record { leaf = leaf; kind = kind }))
AreRefusedFor bytes ReadFault = ⊥
AreRefusedFor bytes WriteFault = ⊥
AreRefusedFor bytes Memory = ⊥

-- The outcome of bytes for a call that writes `output` of a plan. It is this output if the bytes are the text of a plan
-- without a faulty leaf, and else why they are rejected.
abbrev pub HasOutcomeBy : (PlanValue → List ℕ) → List ℕ → Outcome → Type 0
HasOutcomeBy output bytes (Ok written) = (value : PlanValue) × ArePlan bytes value × (first_fault value ≡ None) ×
    (written ≡ output value)
HasOutcomeBy output bytes (Err e) = AreRefusedFor bytes e

-- the outcome of bytes: the visible planes of the slow definition, or why they are rejected
abbrev pub HasOutcome : List ℕ → Outcome → Type 0
HasOutcome bytes outcome = HasOutcomeBy planes_of bytes outcome

-- if the source reported its bytes, their outcome is an output, and P holds for it
abbrev pub Outputs : (PlanValue → List ℕ) → Option (List ℕ) → (List ℕ → Type 0) → Type 0
Outputs output left P = IfSome left (λ bytes. (written : List ℕ) × HasOutcomeBy output bytes (Ok written) × P written)

-- ---- what a call does

-- the cause of an error
abbrev pub cause : ReconError → Cause
cause ReadFault = read_failed
cause TooLong = too_long
cause (Malformed at) = refused
cause (InvalidLeaf leaf kind) = refused
cause WriteFault = write_failed
cause Memory = no_memory

-- the task of a call that reads a plan and writes `output` of it
abbrev pub plan_task : (PlanValue → List ℕ) → Task (List ℕ) (Unit {0}) ReconError
plan_task output = record {
  limit = max_plan_bytes;
  HasOutcome = HasOutcomeBy output;
  written = λ bytes. bytes;
  Says = λ done bytes. ⊤;
  cause = cause;
}

-- What a call does that reads a plan from a source to its end and writes `output` of it to a sink.
abbrev pub Converts : {S K : Type 0} → (PlanValue → List ℕ) → (S → Option (List ℕ)) → (S → ℕ) → (K → Option (List ℕ)) →
    (K → ℕ) → S → S → K → K → Answer → Type 0
Converts output left source_faults taken sink_faults source source' sink sink' answer =
    Performs (plan_task output) left source_faults taken sink_faults source source' sink sink' answer

-- What a call does that reads a plan from a source to its end and writes the visible planes to a sink.
abbrev pub Reconstructs : {S K : Type 0} → (S → Option (List ℕ)) → (S → ℕ) → (K → Option (List ℕ)) → (K → ℕ) → S → S →
    K → K → Answer → Type 0
Reconstructs left source_faults taken sink_faults source source' sink sink' answer =
    Converts planes_of left source_faults taken sink_faults source source' sink sink' answer
