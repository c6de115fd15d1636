-- The task of the call that reads a trace from a source to its end and writes its differences to a sink.
use Rattle.std.specs.Prelude.{◌≡◌, ℕ, ◌≤◌, List, length, Option, Result, Ok, Err, Vec}
use Rattle.std.specs.declared.alloc.Global.{Global}
use Rattle.av1_plan.specs.Plan.{PlanValue}
use Rattle.av1_streams.specs.Tasks.{Cause, too_long, refused, read_failed, write_failed, no_memory, Task, Performs}
use Rattle.av1_streams.specs.Tasks.{Reads}
use Rattle.av1_trace.specs.declared.entry.Difference.{Difference}
use Rattle.av1_trace.specs.declared.error.TraceError.{TraceError}
use Rattle.av1_trace.specs.declared.error.TraceError.TheVariants.{ReadFault, TooLong, Malformed, Plan, WriteFault}
use Rattle.av1_trace.specs.declared.error.TraceError.TheVariants.{Memory}
use Rattle.av1_trace.specs.DifferenceLines.{difference_lines}
use Rattle.av1_trace.specs.Differences.{differences}
use Rattle.av1_trace.specs.Traces.{AreRefusedFor, IsTrace, max_trace_bytes}

-- the differences of a trace, or why the bytes are rejected
abbrev pub Outcome : Type 0
Outcome = Result (List Difference) TraceError

-- the bytes are a trace with these differences
abbrev pub AreDifferences : List ℕ → List Difference → Type 0
AreDifferences bytes list =
    (length bytes ≤ max_trace_bytes) ×
    ((value : PlanValue) × (planes : List ℕ) × IsTrace bytes value planes × (list ≡ differences value planes))

-- the outcome of bytes
abbrev pub HasOutcome : List ℕ → Outcome → Type 0
HasOutcome bytes (Ok list) = AreDifferences bytes list
HasOutcome bytes (Err e) = AreRefusedFor bytes e

-- the cause of an error
abbrev pub cause : TraceError → Cause
cause ReadFault = read_failed
cause TooLong = too_long
cause (Malformed at) = refused
cause (Plan fault) = refused
cause WriteFault = write_failed
cause Memory = no_memory

-- the task: read a trace, write the lines of its differences, and return their number
abbrev pub trace_task : Task (List Difference) ℕ TraceError
trace_task = record {
  limit = max_trace_bytes;
  HasOutcome = HasOutcome;
  written = difference_lines;
  Says = λ count list. count ≡ length list;
  cause = cause;
}

abbrev pub Checks : {S K : Type 0} → (S → Option (List ℕ)) → (S → ℕ) → (K → Option (List ℕ)) → (K → ℕ) → S → S → K → K →
    Result ℕ TraceError → Type 0
Checks left source_faults taken sink_faults source source' sink sink' answer =
    Performs trace_task left source_faults taken sink_faults source source' sink sink' answer

-- ---- the half that reads

-- what is read from bytes: the differences of the trace, or why the bytes are rejected
abbrev pub IsFound : List ℕ → Result (Vec Difference Global) TraceError → Type 0
IsFound bytes (Ok list) = AreDifferences bytes list.items
IsFound bytes (Err e) = AreRefusedFor bytes e

abbrev pub ReadsTrace : {S : Type 0} → (S → Option (List ℕ)) → (S → ℕ) → S → S →
    Result (Vec Difference Global) TraceError → Type 0
ReadsTrace left faults source source' result = Reads max_trace_bytes cause IsFound left faults source source' result
