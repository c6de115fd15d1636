-- What a call does that reads a trace from a source to its end and writes its page to a sink.
use Rattle.std.specs.Prelude.{◌≡◌, ℕ, ◌≤◌, List, length, Option, Result, Ok, Err, ⊤}
use Rattle.av1_plan.specs.Values.{plan_value}
use Rattle.av1_plan.specs.Plan.{PlanValue}
use Rattle.av1_streams.specs.Tasks.{Task, Reads}
use Rattle.av1_trace.specs.Checking.{cause}
use Rattle.av1_trace.specs.Traces.{AreRefusedFor, IsTrace, max_trace_bytes}
use Rattle.av1_trace.specs.declared.error.TraceError.{TraceError}
use Rattle.av1_view.specs.declared.trace.KeptTrace.{KeptTrace}
use Rattle.av1_view.specs.Shown.{trace_page}

-- The outcome of bytes: the page of the trace, or why the bytes are rejected, as `check_trace` rejects them.
abbrev pub HasTraceOutcome : List ℕ → Result (List ℕ) TraceError → Type 0
HasTraceOutcome bytes (Ok written) =
    (length bytes ≤ max_trace_bytes) ×
    ((plan : PlanValue) × (given : List ℕ) × IsTrace bytes plan given × (written ≡ trace_page plan given))
HasTraceOutcome bytes (Err e) = AreRefusedFor bytes e

-- the task of a call that shows a trace
abbrev pub trace_page_task : Task (List ℕ) (Unit {0}) TraceError
trace_page_task = record {
  limit = max_trace_bytes;
  HasOutcome = HasTraceOutcome;
  written = λ bytes. bytes;
  Says = λ done bytes. ⊤;
  cause = cause;
}

-- ---- the half that reads

-- what is read from bytes: the trace, or why the bytes are rejected
abbrev pub IsFound : List ℕ → Result KeptTrace TraceError → Type 0
IsFound bytes (Ok trace) = (length bytes ≤ max_trace_bytes) × IsTrace bytes (plan_value trace.plan) trace.planes.items
IsFound bytes (Err e) = AreRefusedFor bytes e

abbrev pub ReadsTrace : {S : Type 0} → (S → Option (List ℕ)) → (S → ℕ) → S → S → Result KeptTrace TraceError → Type 0
ReadsTrace left faults source source' result = Reads max_trace_bytes cause IsFound left faults source source' result
