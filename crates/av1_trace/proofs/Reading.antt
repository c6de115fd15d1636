-- What reading a trace says where its bytes can't be read: what the error blames, and that nothing is found.
use Rattle.std.proofs.Common.{◌≡◌, ℕ, ◌+◌, ◌≤◌, List, Option, Result, ap, refl}
use Rattle.std.specs.Prelude.{IsErrAnd}
use Rattle.av1_streams.specs.Faults.{FaultCounted}
use Rattle.av1_streams.specs.Streams.{Takes, TakesAtMost}
use Rattle.av1_streams.specs.Tasks.{Reads}
use Rattle.av1_streams.specs.declared.read.ReadError.{ReadError}
use Rattle.av1_streams.specs.declared.read.ReadError.TheVariants as read_errors
use Rattle.av1_streams.proofs.Reading.{read_cause, read_err, unread}
use Rattle.av1_trace.specs.Checking.{cause}
use Rattle.av1_trace.specs.Traces.{max_trace_bytes}
use Rattle.av1_trace.specs.declared.error.TraceError.{TraceError}
use Rattle.av1_trace.specs.TraceErrors.{read_error}

blames : (e : ReadError) → cause (read_error e) ≡ read_cause e
blames read_errors.ReadFault = refl
blames read_errors.TooLong = refl
blames read_errors.Memory = refl

-- where the bytes of a trace couldn't be read, nothing is found
pub trace_unread : {V S : Type 0} (Found : List ℕ → Result V TraceError → Type 0) (left : S → Option (List ℕ)) (faults : S → ℕ) (source source' : S)
    (result : Result V TraceError) (e : ReadError)
    → TakesAtMost (max_trace_bytes + 1) (left source) (left source') → faults source ≤ faults source'
    → (read_err e ≡ read_err read_errors.ReadFault → FaultCounted (faults source) (faults source'))
    → (¬ (read_err e ≡ read_err read_errors.ReadFault) → faults source' ≡ faults source)
    → (read_err e ≡ read_err read_errors.TooLong → Takes (max_trace_bytes + 1) (left source) (left source'))
    → IsErrAnd result (λ x. x ≡ read_error e) → Reads max_trace_bytes cause Found left faults source source' result
trace_unread Found left faults source source' result e taken later counted uncounted long is =
    unread max_trace_bytes cause Found left faults source source' result e (read_error e)
    (blames e) taken later (λ h. counted (ap read_err h)) uncounted (λ h. long (ap read_err h)) is
