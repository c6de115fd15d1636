-- Bytes have one outcome as the page of a trace.
use Rattle.std.proofs.Common.{◌≡◌, ℕ, ◌≤◌, List, [], length, Result, Ok, Err, refl, sym, ap, subst, ◌∙◌}
use Rattle.std.specs.Prelude.{IfOk}
use Rattle.av1_plan.specs.Grammar.{plan as grammar}
use Rattle.av1_plan.specs.Plan.{PlanValue}
use Rattle.av1_plan.specs.Spelling.{AreText}
use Rattle.av1_plan.proofs.Spelled.{one_text}
use Rattle.av1_streams.proofs.Performing.{IsSound}
use Rattle.av1_trace.specs.Checking.{Outcome}
use Rattle.av1_trace.specs.Differences.{differences}
use Rattle.av1_trace.specs.Traces.{AreRefusedFor, IsTrace, max_trace_bytes}
use Rattle.av1_trace.specs.declared.error.TraceError.{TraceError}
use Rattle.av1_trace.proofs.Shapes.{one_plan, same_planes}
use Rattle.av1_trace.proofs.TraceOutcomes.{one_outcome, trace_task_sound}
use Rattle.av1_view.specs.Shown.{trace_page}
use Rattle.av1_view.specs.TracePages.{HasTraceOutcome, trace_page_task}

-- bytes are one trace
same_plan : (bytes : List ℕ) (a b : PlanValue) (xs ys : List ℕ) → IsTrace bytes a xs → IsTrace bytes b ys → a ≡ b
same_plan bytes a b xs ys p q =
    one_text grammar q.plan a b (subst (λ (l : List ℕ). AreText grammar l a) (one_plan bytes p.plan xs q.plan ys p.parts q.parts) p.spelled.text) q.spelled.text

same_page : (bytes : List ℕ) (a b : PlanValue) (xs ys : List ℕ) → IsTrace bytes a xs → IsTrace bytes b ys → trace_page a xs ≡ trace_page b ys
same_page bytes a b xs ys p q =
    ap (λ (v : PlanValue). trace_page v xs) (same_plan bytes a b xs ys p q) ∙ ap (trace_page b) (same_planes bytes p.plan xs q.plan ys p.parts q.parts)

abbrev written : List ℕ → Result (List ℕ) TraceError
written bytes = Ok bytes

-- the same outcome, without what is written
abbrev cleared : Outcome → Result (List ℕ) TraceError
cleared (Ok list) = Ok []
cleared (Err e) = Err e

-- bytes that are a trace are not refused
not_refused : {X : Type 0} (bytes : List ℕ) (plan : PlanValue) (given : List ℕ) (e : TraceError) → length bytes ≤ max_trace_bytes →
    IsTrace bytes plan given → AreRefusedFor bytes e → X
not_refused bytes plan given e short trace refused =
    let found : Outcome = Ok (differences plan given) in
    let same : found ≡ Err e = one_outcome bytes (Ok (differences plan given)) (Err e) (short, (plan, given, trace, refl)) refused in
    absurd cc

one : (bytes : List ℕ) (a b : Result (List ℕ) TraceError) → HasTraceOutcome bytes a → HasTraceOutcome bytes b → a ≡ b
one bytes (Ok x) (Ok y) (short, (p, xs, s, e)) (long, (q, ys, t, f)) = ap written (e ∙ same_page bytes p q xs ys s t ∙ sym f)
one bytes (Ok x) (Err e) (short, (p, xs, s, same)) refused = not_refused bytes p xs e short s refused
one bytes (Err e) (Ok x) refused (short, (p, xs, s, same)) = not_refused bytes p xs e short s refused
one bytes (Err d) (Err e) p q = ap cleared (one_outcome bytes (Err d) (Err e) p q)

pub trace_page_task_sound : IsSound trace_page_task
trace_page_task_sound = record {
  one = one;
  long = trace_task_sound.long;
}

-- an answer says nothing more of the bytes
pub says_nothing : {E : Type 0} (answer : Result (Unit {0}) E) → IfOk answer (λ done. Unit {0})
says_nothing (Ok done) = tt
says_nothing (Err e) = tt
