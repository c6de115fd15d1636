-- Which bytes are a trace, and why other bytes are rejected.
use Rattle.std.specs.Prelude.{◌≡◌, ℕ, ◌+◌, ◌<◌, ◌≤◌, ◌^◌, List, ◌++◌, length, codes, Some, None}
use Rattle.std.specs.Int.{to_le_bytes, w32}
use Rattle.av1_plan.specs.Grammar.{plan as grammar}
use Rattle.av1_plan.specs.Plan.{PlanValue}
use Rattle.av1_plan.specs.Spelling.{AreText, AreRefused}
use Rattle.av1_plan.specs.Validity.{first_fault}
use Rattle.av1_streams.specs.Streams.{max_plan_bytes}
use Rattle.av1_recon.specs.declared.error.PlanFault.{PlanFault}
use Rattle.av1_recon.specs.declared.error.PlanFault.TheVariants as faults
use Rattle.av1_trace.specs.declared.error.TraceError.{TraceError}
use Rattle.av1_trace.specs.declared.error.TraceError.TheVariants.{ReadFault, TooLong, Malformed, Plan, WriteFault}
use Rattle.av1_trace.specs.declared.error.TraceError.TheVariants.{Memory}
use Rattle.av1_trace.specs.Samples.{planes_len}

-- the greatest length of a trace in bytes: 128 MiB
abbrev pub max_trace_bytes : ℕ
max_trace_bytes = 2 ^ 27

-- ---- the fields of a trace

-- the letters at the front
abbrev pub letters : List ℕ
letters = codes "RTR1"

-- the bytes before the planes: the letters, the length of the plan in four bytes, the low byte first, and the plan
abbrev pub front_of : List ℕ → List ℕ
front_of plan = letters ++ to_le_bytes w32 (length plan) ++ plan

-- The bytes are the fields before a plan, the plan and its planes. The plan is no longer than a plan may be.
pub record HasParts (bytes plan planes : List ℕ) : Type 0 where
  pub short : length plan ≤ max_plan_bytes
  pub are : bytes ≡ front_of plan ++ planes

-- these are the bytes of a valid plan
pub record IsValidPlan (bytes : List ℕ) (value : PlanValue) : Type 0 where
  pub text : AreText grammar bytes value
  pub valid : first_fault value ≡ None

-- the bytes are a trace of this plan with these planes, as many bytes as the plan's planes have
pub record IsTrace (bytes : List ℕ) (value : PlanValue) (planes : List ℕ) : Type 0 where
  pub plan : List ℕ
  pub parts : HasParts bytes plan planes
  pub spelled : IsValidPlan plan value
  pub whole : length planes ≡ planes_len value.header

-- ---- why bytes are rejected

-- the bytes begin with this front
abbrev pub Begin : List ℕ → List ℕ → Type 0
Begin bytes front = (rest : List ℕ) × (bytes ≡ front ++ rest)

-- The first field that is cut off, not valid or left over begins at `at`. It is the letters, or the length, which has
-- to be one that a plan may have, or the plan. Or the plan is valid, and it is the planes, which are cut off, or what
-- is left over after them.
pub data IsMalformedAt (bytes : List ℕ) (at : ℕ) : Type 0 where
  no_letters : at ≡ 0 → ¬ Begin bytes letters → IsMalformedAt bytes at
  no_length : at ≡ 4 → Begin bytes letters →
      ((n : ℕ) → n ≤ max_plan_bytes → ¬ Begin bytes (letters ++ to_le_bytes w32 n)) → IsMalformedAt bytes at
  cut_plan : at ≡ 8 → (n : ℕ) → n ≤ max_plan_bytes → Begin bytes (letters ++ to_le_bytes w32 n) → length bytes < 8 + n →
      IsMalformedAt bytes at
  cut_planes : (plan planes : List ℕ) (value : PlanValue) → HasParts bytes plan planes → IsValidPlan plan value →
      length planes < planes_len value.header → at ≡ 8 + length plan → IsMalformedAt bytes at
  left_over : (plan planes : List ℕ) (value : PlanValue) → HasParts bytes plan planes → IsValidPlan plan value →
      planes_len value.header < length planes → at ≡ 8 + length plan + planes_len value.header → IsMalformedAt bytes at

-- the plan is rejected for this reason
abbrev pub IsFaultOf : List ℕ → PlanFault → Type 0
IsFaultOf plan (faults.Malformed at) = AreRefused grammar plan at
IsFaultOf plan (faults.Invalid leaf kind) = (value : PlanValue) × AreText grammar plan value ×
    (first_fault value ≡ Some (record { leaf = leaf; kind = kind }))

-- the error is that the plan is rejected, for this reason
abbrev pub IsPlanFault : List ℕ → TraceError → Type 0
IsPlanFault plan (Plan fault) = IsFaultOf plan fault
IsPlanFault plan e = ⊥

-- why bytes are rejected
abbrev pub AreRefusedFor : List ℕ → TraceError → Type 0
AreRefusedFor bytes TooLong = max_trace_bytes < length bytes
AreRefusedFor bytes (Malformed at) = (length bytes ≤ max_trace_bytes) × IsMalformedAt bytes at
AreRefusedFor bytes (Plan fault) =
    (length bytes ≤ max_trace_bytes) ×
    ((plan : List ℕ) × (planes : List ℕ) × HasParts bytes plan planes × IsFaultOf plan fault)
AreRefusedFor bytes ReadFault = ⊥
AreRefusedFor bytes WriteFault = ⊥
AreRefusedFor bytes Memory = ⊥
