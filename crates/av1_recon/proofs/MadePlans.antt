-- The plan of a number: that parsing it refuses nothing, and that there are lines on it.
use Rattle.std.proofs.Common.{◌≡◌, ℕ, List, Result, Ok, Err, refl, sym, ap, subst, ◌∙◌}
use Rattle.std.specs.Prelude.{IsErrAnd, IfErr}
use Rattle.av1_plan.specs.Text.{ArePlan}
use Rattle.av1_plan.proofs.PlanFills.{plan_is, faultless_is, few_bytes}
use Rattle.av1_plan.specs.Grammar.{plan}
use Rattle.av1_plan.specs.Plan.{PlanValue}
use Rattle.av1_plan.specs.Spelling.{AreText}
use Rattle.av1_plan.specs.declared.error.PlanError.{PlanError}
use Rattle.av1_plan.specs.declared.error.PlanError.TheVariants as plan_errors
use Rattle.av1_plan.specs.declared.plan.Plan.{Plan}
use Rattle.av1_recon.specs.Errors.{plan_error}
use Rattle.av1_recon.specs.Lines.{sum_lines}
use Rattle.av1_recon.specs.Made.{AreMadeSums}
use Rattle.av1_recon.specs.declared.error.ReconError.{ReconError}
use Rattle.av1_recon.specs.declared.error.ReconError.TheVariants.{Memory}

-- where bytes are the text of a plan, running out of memory is all that parsing answers but the plan
pub memory_alone : (bytes made : List ℕ) (e : PlanError) (result : Result Plan ReconError) → bytes ≡ made → ArePlan made
    → ((p : PlanValue) → AreText plan bytes p → e ≡ plan_errors.Memory) → IsErrAnd result (λ d. d ≡ plan_error e) → IfErr result (λ d. d ≡ Memory)
memory_alone bytes made e (Ok x) same are only is = tt
memory_alone bytes made e (Err d) same are only is =
    let (p, text) = subst (λ (b : List ℕ). ArePlan b) (sym same) are in
    is ∙ ap plan_error (only p text)

-- there are lines on the plan of each number
pub some_sums : (number : ℕ) → (lines : List ℕ) × AreMadeSums number lines
some_sums number =
    let (value, text) = plan_is number in
    (sum_lines value, (value, (few_bytes number, text), faultless_is number value text, refl))
