-- What a call does that reads a plan and writes of it, from what reading and writing do.
use Rattle.std.proofs.Common.{ℕ, List, Option, Ok, Err, refl, sym, subst, ◌≡◌}
use Rattle.std.specs.Prelude.{IfOk, IsErrAnd}
use Rattle.av1_plan.specs.Values.{plan_value}
use Rattle.av1_plan.specs.Plan.{PlanValue}
use Rattle.av1_plan.specs.declared.plan.Plan.{Plan}
use Rattle.av1_streams.specs.Tasks.{AnswersBytes}
use Rattle.av1_streams.proofs.Performing.{carries_on as performs_on, stops as performs_not, is_err}
use Rattle.av1_streams.proofs.Told.{answers_bytes}
use Rattle.av1_recon.specs.declared.error.ReconError.{ReconError}
use Rattle.av1_recon.specs.Outcomes.{Answer, Converts, plan_task}
use Rattle.av1_recon.specs.Reading.{IsFound, ReadsPlan}
use Rattle.av1_recon.specs.Writing.{Writes}
use Rattle.av1_recon.proofs.Outcomes.{plan_task_sound}

-- no plan was read, and the answer is why
pub stops : {S K : Type 0} (output : PlanValue → List ℕ) (left : S → Option (List ℕ)) (source_faults : S → ℕ) (taken : K → Option (List ℕ))
    (sink_faults : K → ℕ) (source source' : S) (sink : K) (answer : Answer) (e : ReconError)
    → IsErrAnd answer (λ d. d ≡ e) → ReadsPlan left source_faults source source' (Err e) →
    Converts output left source_faults taken sink_faults source source' sink sink answer
stops output left source_faults taken sink_faults source source' sink answer e is reads =
    subst (Converts output left source_faults taken sink_faults source source' sink sink) (sym (is_err answer e is))
    (performs_not (plan_task output) (plan_task_sound output) IsFound (λ bytes d refused. refused) left source_faults taken sink_faults source source' sink e
    reads)

-- an answer of a plan's bytes says nothing more of them
says_nothing : (answer : Answer) → IfOk answer (λ done. Unit {0})
says_nothing (Ok done) = tt
says_nothing (Err e) = tt

-- a valid plan was read, and written of
pub carries_on : {S K : Type 0} (output : PlanValue → List ℕ) (left : S → Option (List ℕ)) (source_faults : S → ℕ) (taken : K → Option (List ℕ))
    (sink_faults : K → ℕ) (source source' : S) (sink sink' : K) (plan : Plan) (answer : Answer)
    → ReadsPlan left source_faults source source' (Ok plan) → Writes taken sink_faults sink sink' (output (plan_value plan)) answer
    → Converts output left source_faults taken sink_faults source source' sink sink' answer
carries_on output left source_faults taken sink_faults source source' sink sink' plan answer reads w =
    performs_on (plan_task output) IsFound left source_faults taken sink_faults source source' sink sink' plan (output (plan_value plan)) answer
    (λ bytes found. (plan_value plan, found.0, found.1, refl)) (says_nothing answer) reads w

-- what the answer says of all the bytes that a source tells
pub tells_all : {S K : Type 0} (output : PlanValue → List ℕ) (left : S → Option (List ℕ)) (source_faults : S → ℕ) (taken : K → Option (List ℕ))
    (sink_faults : K → ℕ) (source source' : S) (sink sink' : K) (answer : Answer)
    → Converts output left source_faults taken sink_faults source source' sink sink' answer
    → AnswersBytes (plan_task output) left source_faults taken sink_faults source source' sink sink' answer
tells_all output left source_faults taken sink_faults source source' sink sink' answer does =
    answers_bytes (plan_task output) (plan_task_sound output) left source_faults taken sink_faults source source' sink sink' answer does
