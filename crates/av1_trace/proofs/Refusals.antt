-- Why bytes of a trace are refused.
use Rattle.std.proofs.Common.{◌≡◌, ◌≢◌, ℕ, ◌+◌, ◌<◌, ◌≤◌, List, length, Result, Ok, Err, sym, ap, subst, ◌∙◌, arith, refl}
use Rattle.std.specs.Prelude.{IfErr, IsErrAnd}
use Rattle.av1_plan.specs.Plan.{PlanValue}
use Rattle.av1_plan.specs.declared.header.Header.{Header}
use Rattle.av1_trace.specs.Samples.{planes_len}
use Rattle.av1_trace.specs.Traces.{AreRefusedFor, HasParts, IsMalformedAt, IsValidPlan, cut_planes, left_over, max_trace_bytes}
use Rattle.av1_trace.specs.declared.error.TraceError.{TraceError}
use Rattle.av1_trace.specs.declared.error.TraceError.TheVariants.{Malformed, Memory}

pub no_parts : {X : Type 0} (bytes : List ℕ) (result : Result X TraceError) (e : TraceError) → length bytes ≤ max_trace_bytes → IsErrAnd result (λ d. d ≡ e)
    → ((at : ℕ) × (e ≡ Malformed at) × IsMalformedAt bytes at) → IfErr result (λ d. d ≢ Memory → AreRefusedFor bytes d)
no_parts bytes (Ok x) e short is (at, same, malformed) = absurd is
no_parts bytes (Err d) e short is (at, same, malformed) = λ n. subst (AreRefusedFor bytes) (sym (is ∙ same)) (short, malformed)

pub planes_cut : (bytes plan planes : List ℕ) (value : PlanValue) (h : Header) (len : ℕ) (e : TraceError) → length bytes ≤ max_trace_bytes →
    HasParts bytes plan planes → IsValidPlan plan value
    → len ≡ planes_len h → h ≡ value.header → length planes < len → e ≡ Malformed (8 + length plan) → e ≢ Memory → AreRefusedFor bytes e
planes_cut bytes plan planes value h len e short parts valid l same few is n =
    let fewer : length planes < planes_len value.header = omega (arith, few, l ∙ ap planes_len same) in
    subst (AreRefusedFor bytes) (sym is) (short, cut_planes plan planes value parts valid fewer refl)

pub planes_left_over : (bytes plan planes : List ℕ) (value : PlanValue) (h : Header) (len : ℕ) (e : TraceError) → length bytes ≤ max_trace_bytes →
    HasParts bytes plan planes → IsValidPlan plan value
    → len ≡ planes_len h → h ≡ value.header → len < length planes → e ≡ Malformed (8 + length plan + len) → e ≢ Memory → AreRefusedFor bytes e
planes_left_over bytes plan planes value h len e short parts valid l same many is n =
    let whole : len ≡ planes_len value.header = l ∙ ap planes_len same in
    let more : planes_len value.header < length planes = omega (arith, many, whole) in
    subst (AreRefusedFor bytes) (sym is) (short, left_over plan planes value parts valid more (ap (λ (m : ℕ). 8 + length plan + m) whole))
