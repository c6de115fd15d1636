-- Bytes have an outcome as a trace, and one alone.
use Rattle.std.proofs.Common.{◌≡◌, inl, inr, ℕ, ◌+◌, ◌<◌, ◌≤◌, ◌^◌, Bool, true, false, List, length, drop, get_or, get_or-drop, Option, Some, None, Result, Ok}
use Rattle.std.proofs.Common.{Err, refl, sym, ap, subst, ◌∙◌, arith}
use Rattle.std.specs.Prelude.{All, nat_lt}
use Rattle.std.proofs.Math.ListN.{get_or-append}
use Rattle.std.proofs.lemmas.Bool.{cases_lt, lt-ltb, le-ltb}
use Rattle.std.proofs.lemmas.List.{get_or_past}
use Rattle.av1_plan.specs.Format.{start, read_all}
use Rattle.av1_plan.specs.Grammar.{plan as grammar}
use Rattle.av1_plan.specs.Plan.{PlanValue}
use Rattle.av1_plan.specs.Spelling.{AreText, AreRefused}
use Rattle.av1_plan.specs.Validity.{first_fault}
use Rattle.av1_plan.specs.declared.error.Invalid.{Invalid}
use Rattle.av1_plan.proofs.Fields.{AreBytes}
use Rattle.av1_plan.proofs.Spelled.{one_text, all_found, all_refused}
use Rattle.av1_streams.specs.Tasks.{refused as refused_for, too_long}
use Rattle.av1_streams.proofs.Performing.{IsSound}
use Rattle.av1_recon.proofs.Outcomes.{byte_fits, same_place}
use Rattle.av1_trace.specs.Checking.{HasOutcome, Outcome, cause, trace_task}
use Rattle.av1_trace.specs.Differences.{differences}
use Rattle.av1_trace.specs.Samples.{planes_len}
use Rattle.av1_trace.specs.Traces.{AreRefusedFor, HasParts, IsMalformedAt, IsValidPlan, cut_planes, left_over, max_trace_bytes, no_letters, no_length, cut_plan}
use Rattle.av1_recon.specs.declared.error.PlanFault.TheVariants as faults
use Rattle.av1_trace.specs.declared.error.TraceError.{TraceError}
use Rattle.av1_trace.specs.declared.error.TraceError.TheVariants.{ReadFault, TooLong, Malformed, Plan, WriteFault, Memory}
use Rattle.av1_trace.proofs.Shapes.{IsFrontFault, no_letters as front_letters, no_length as front_length, cut_plan as front_plan, one_front_fault}
use Rattle.av1_trace.proofs.Shapes.{no_front_fault, one_plan, same_planes, some_front}

-- ---- what bytes are

-- what the bytes of a plan are to the grammar
pub data PlanReading : Type 0 where
  not_plan : ℕ → PlanReading
  is_plan : PlanValue → PlanReading

abbrev IsPlanReading : List ℕ → PlanReading → Type 0
IsPlanReading plan (not_plan at) = AreRefused grammar plan at
IsPlanReading plan (is_plan value) = AreText grammar plan value

plan_reading_is : (plan : List ℕ) (a b : PlanReading) → IsPlanReading plan a → IsPlanReading plan b → a ≡ b
plan_reading_is plan (not_plan d) (not_plan e) p q = ap not_plan (same_place grammar plan d e p q)
plan_reading_is plan (not_plan d) (is_plan v) p q = absurd (p.no_text v q)
plan_reading_is plan (is_plan v) (not_plan d) p q = absurd (q.no_text v p)
plan_reading_is plan (is_plan v) (is_plan w) p q = ap is_plan (one_text grammar plan v w p q)

-- what bytes are to the format of traces: too many, broken in front of the planes, or a plan and planes
pub data Shape : Type 0 where
  long : Shape
  broken : ℕ → Shape
  parted : List ℕ → List ℕ → PlanReading → Shape

abbrev IsShape : List ℕ → Shape → Type 0
IsShape bytes long = max_trace_bytes < length bytes
IsShape bytes (broken at) = (length bytes ≤ max_trace_bytes) × IsFrontFault bytes at
IsShape bytes (parted plan planes reading) = (length bytes ≤ max_trace_bytes) × HasParts bytes plan planes × IsPlanReading plan reading

shape_is : (bytes : List ℕ) (a b : Shape) → IsShape bytes a → IsShape bytes b → a ≡ b
shape_is bytes long long p q = refl
shape_is bytes long (broken d) p q = absurd (omega (arith, p, q.0))
shape_is bytes long (parted plan planes r) p q = absurd (omega (arith, p, q.0))
shape_is bytes (broken d) long p q = absurd (omega (arith, p.0, q))
shape_is bytes (broken d) (broken e) p q = ap broken (one_front_fault bytes d e p.1 q.1)
shape_is bytes (broken d) (parted plan planes r) p q = absurd (no_front_fault bytes plan planes d q.1 p.1)
shape_is bytes (parted plan planes r) long p q = absurd (omega (arith, p.0, q))
shape_is bytes (parted plan planes r) (broken d) p q = absurd (no_front_fault bytes plan planes d p.1 q.1)
shape_is bytes (parted plan planes r) (parted plan' planes' s) p q =
    let same : plan ≡ plan' = one_plan bytes plan planes plan' planes' p.1 q.1 in
    let reading : r ≡ s = plan_reading_is plan' r s (subst (λ (l : List ℕ). IsPlanReading l r) same p.2) q.2 in
    ap (λ (l : List ℕ). parted l planes r) same ∙ ap (λ (l : List ℕ). parted plan' l r) (same_planes bytes plan planes plan' planes' p.1 q.1)
    ∙ ap (parted plan' planes') reading

-- ---- what follows of them

abbrev judged_planes : List ℕ → List ℕ → PlanValue → Bool → Bool → Outcome
judged_planes plan planes value true more = Err (Malformed (8 + length plan))
judged_planes plan planes value false true = Err (Malformed (8 + length plan + planes_len value.header))
judged_planes plan planes value false false = Ok (differences value planes)

abbrev judged_valid : List ℕ → List ℕ → PlanValue → Outcome
judged_valid plan planes value =
    judged_planes plan planes value (nat_lt (length planes) (planes_len value.header)) (nat_lt (planes_len value.header) (length planes))

abbrev judged_plan : List ℕ → List ℕ → PlanValue → Option Invalid → Outcome
judged_plan plan planes value None = judged_valid plan planes value
judged_plan plan planes value (Some fault) = Err (Plan (faults.Invalid fault.leaf fault.kind))

abbrev judged : Shape → Outcome
judged long = Err TooLong
judged (broken at) = Err (Malformed at)
judged (parted plan planes (not_plan at)) = Err (Plan (faults.Malformed at))
judged (parted plan planes (is_plan value)) = judged_plan plan planes value (first_fault value)

-- planes that are whole, cut, or too many
are_whole : (plan planes : List ℕ) (value : PlanValue) → length planes ≡ planes_len value.header →
    judged_valid plan planes value ≡ Ok (differences value planes)
are_whole plan planes value whole =
    ap (λ (b : Bool). judged_planes plan planes value b (nat_lt (planes_len value.header) (length planes)))
    (le-ltb (length planes) (planes_len value.header) (omega (arith, whole)))
    ∙ ap (judged_planes plan planes value false) (le-ltb (planes_len value.header) (length planes) (omega (arith, whole)))

are_cut : (plan planes : List ℕ) (value : PlanValue) → length planes < planes_len value.header →
    judged_valid plan planes value ≡ Err (Malformed (8 + length plan))
are_cut plan planes value less =
    ap (λ (b : Bool). judged_planes plan planes value b (nat_lt (planes_len value.header) (length planes)))
    (lt-ltb (length planes) (planes_len value.header) less)

are_more : (plan planes : List ℕ) (value : PlanValue) → planes_len value.header < length planes →
    judged_valid plan planes value ≡ Err (Malformed (8 + length plan + planes_len value.header))
are_more plan planes value more =
    ap (λ (b : Bool). judged_planes plan planes value b (nat_lt (planes_len value.header) (length planes)))
    (le-ltb (length planes) (planes_len value.header) (omega (arith, more)))
    ∙ ap (judged_planes plan planes value false) (lt-ltb (planes_len value.header) (length planes) more)

-- a shape from which an outcome follows
abbrev Follows : List ℕ → Outcome → Type 0
Follows bytes outcome = (s : Shape) × IsShape bytes s × (outcome ≡ judged s)

-- behind a valid plan
of_valid : (bytes plan planes : List ℕ) (value : PlanValue) (outcome : Outcome) → length bytes ≤ max_trace_bytes → HasParts bytes plan planes →
    IsValidPlan plan value
    → judged_valid plan planes value ≡ outcome → Follows bytes outcome
of_valid bytes plan planes value outcome short parts valid e =
    (parted plan planes (is_plan value), (short, parts, valid.text), sym (ap (judged_plan plan planes value) valid.valid ∙ e))

of_malformed : (bytes : List ℕ) (at : ℕ) → length bytes ≤ max_trace_bytes → IsMalformedAt bytes at → Follows bytes (Err (Malformed at))
of_malformed bytes at short (no_letters e none) = (broken at, (short, front_letters e none), refl)
of_malformed bytes at short (no_length e begin none) = (broken at, (short, front_length e begin none), refl)
of_malformed bytes at short (cut_plan e n few begin less) = (broken at, (short, front_plan e n few begin less), refl)
of_malformed bytes at short (cut_planes plan planes value parts valid less e) =
    of_valid bytes plan planes value (Err (Malformed at)) short parts valid (are_cut plan planes value less
    ∙ ap (λ (n : ℕ). let o : Outcome = Err (Malformed n) in o) (sym e))
of_malformed bytes at short (left_over plan planes value parts valid more e) =
    of_valid bytes plan planes value (Err (Malformed at)) short parts valid (are_more plan planes value more
    ∙ ap (λ (n : ℕ). let o : Outcome = Err (Malformed n) in o) (sym e))

-- an outcome follows from a shape
of_shape : (bytes : List ℕ) (outcome : Outcome) → HasOutcome bytes outcome → Follows bytes outcome
of_shape bytes (Ok list) (short, (value, planes, trace, e)) =
    of_valid bytes trace.plan planes value (Ok list) short trace.parts trace.spelled (are_whole trace.plan planes value trace.whole
    ∙ ap (λ l. let o : Outcome = Ok l in o) (sym e))
of_shape bytes (Err TooLong) c = (long, c, refl)
of_shape bytes (Err (Malformed at)) (short, malformed) = of_malformed bytes at short malformed
of_shape bytes (Err (Plan (faults.Malformed at))) (short, (plan, planes, parts, refused)) = (parted plan planes (not_plan at), (short, parts, refused), refl)
of_shape bytes (Err (Plan (faults.Invalid leaf kind))) (short, (plan, planes, parts, (value, text, fault))) =
    (parted plan planes (is_plan value), (short, parts, text), sym (ap (judged_plan plan planes value) fault))
of_shape bytes (Err ReadFault) c = absurd c
of_shape bytes (Err WriteFault) c = absurd c
of_shape bytes (Err Memory) c = absurd c

-- bytes have one outcome
pub one_outcome : (bytes : List ℕ) (a b : Outcome) → HasOutcome bytes a → HasOutcome bytes b → a ≡ b
one_outcome bytes a b p q =
    let (r, s, e) = of_shape bytes a p in
    let (t, u, f) = of_shape bytes b q in
    e ∙ ap judged (shape_is bytes r t s u) ∙ sym f

-- ---- some outcome

abbrev Some-outcome : List ℕ → Type 0
Some-outcome bytes = (outcome : Outcome) × HasOutcome bytes outcome

-- behind a valid plan
behind_valid : (bytes plan planes : List ℕ) (value : PlanValue) → length bytes ≤ max_trace_bytes → HasParts bytes plan planes → IsValidPlan plan value →
    Some-outcome bytes
behind_valid bytes plan planes value short parts valid = elim (cases_lt (length planes) (planes_len value.header)) [
  | inl less ↦ (Err (Malformed (8 + length plan)), (short, cut_planes plan planes value parts valid less refl))
  | inr enough ↦ elim (cases_lt (planes_len value.header) (length planes)) [
    | inl more ↦ (Err (Malformed (8 + length plan + planes_len value.header)), (short, left_over plan planes value parts valid more refl))
    | inr few ↦ (
      Ok (differences value planes),
      (short, (value, planes, (record { plan = plan; parts = parts; spelled = valid; whole = omega (arith, enough, few) }), refl)),
    )
  ]
]

behind_plan : (bytes plan planes : List ℕ) (value : PlanValue) → length bytes ≤ max_trace_bytes → HasParts bytes plan planes → AreText grammar plan value
    → (fault : Option Invalid) → first_fault value ≡ fault → Some-outcome bytes
behind_plan bytes plan planes value short parts text None e = behind_valid bytes plan planes value short parts (record { text = text; valid = e })
behind_plan bytes plan planes value short parts text (Some fault) e =
    (Err (Plan (faults.Invalid fault.leaf fault.kind)), (short, (plan, planes, parts, (value, text, e))))

behind_front : (bytes plan planes : List ℕ) → length bytes ≤ max_trace_bytes → HasParts bytes plan planes → AreBytes plan → (result : Result PlanValue ℕ) →
    read_all grammar (start plan) ≡ result → Some-outcome bytes
behind_front bytes plan planes short parts fits (Ok value) e =
    behind_plan bytes plan planes value short parts (all_found grammar plan value fits e) (first_fault value) refl
behind_front bytes plan planes short parts fits (Err at) e =
    (Err (Plan (faults.Malformed at)), (short, (plan, planes, parts, all_refused grammar plan at fits e)))

of_front_fault : (bytes : List ℕ) (at : ℕ) → IsFrontFault bytes at → IsMalformedAt bytes at
of_front_fault bytes at (front_letters e none) = no_letters e none
of_front_fault bytes at (front_length e begin none) = no_length e begin none
of_front_fault bytes at (front_plan e n few begin less) = cut_plan e n few begin less

-- bytes have some outcome
pub some_outcome : (bytes : List ℕ) → All (λ byte. byte < 2 ^ 8) bytes → (outcome : Outcome) × HasOutcome bytes outcome
some_outcome bytes fits = elim (cases_lt max_trace_bytes (length bytes)) [
  | inl over ↦ (Err TooLong, over)
  | inr short ↦ elim (some_front bytes (byte_fits bytes fits)) [
    | inl (plan, planes, parts) ↦ behind_front bytes plan planes short parts (plan_fits bytes plan planes parts (byte_fits bytes fits))
        (read_all grammar (start plan)) refl
    | inr (at, fault) ↦ (Err (Malformed at), (short, of_front_fault bytes at fault))
  ]
]
  where
    plan_fits : (bytes plan planes : List ℕ) → HasParts bytes plan planes → AreBytes bytes → AreBytes plan
    plan_fits bytes plan planes parts fits i = elim (cases_lt i (length plan)) [
      | inl within ↦
          let here : get_or (drop 8 bytes) i 0 < 256 = rw get_or-drop (fits (8 + i)) in
          let same : get_or (drop 8 bytes) i 0 ≡ get_or plan i 0 = ap (λ (l : List ℕ). get_or (drop 8 l) i 0) parts.are ∙ get_or-append plan planes 0 i within
          in
          subst (λ (v : ℕ). v < 256) same here
      | inr past ↦ rw (get_or_past plan i 0 past) (omega arith)
    ]

-- ---- the task

too_many : (bytes : List ℕ) (e : TraceError) → cause e ≡ too_long → max_trace_bytes < length bytes → AreRefusedFor bytes e
too_many bytes TooLong is over = over
too_many bytes ReadFault is over = absurd cc
too_many bytes (Malformed at) is over = absurd cc
too_many bytes (Plan fault) is over = absurd cc
too_many bytes WriteFault is over = absurd cc
too_many bytes Memory is over = absurd cc

pub trace_task_sound : IsSound trace_task
trace_task_sound = record {
  one = one_outcome;
  long = too_many;
}

-- bytes that are not too long are refused for what they are
pub short_refused : (bytes : List ℕ) (e : TraceError) → length bytes ≤ max_trace_bytes → AreRefusedFor bytes e → cause e ≡ refused_for
short_refused bytes TooLong short r = absurd (omega (arith, short, r))
short_refused bytes ReadFault short r = absurd r
short_refused bytes (Malformed at) short r = refl
short_refused bytes (Plan fault) short r = refl
short_refused bytes WriteFault short r = absurd r
short_refused bytes Memory short r = absurd r
