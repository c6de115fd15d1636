use Rattle.std.proofs.Common.{List, ℕ, sym, subst}
use Rattle.av1_plan.specs.Text.{AreFaultless}
use Rattle.av1_plan.specs.Values.{plan_value}
use Rattle.av1_recon.proofs.MadePlans.{memory_alone}
use Rattle.av1_recon.proofs.made.parse_made.Goals as goal

pub returns-in_err-plan-clause-memory : goal.returns-in_err-plan-clause-memory
returns-in_err-plan-clause-memory c =
    memory_alone c.deref.result.now c.in_ok-bytes.bytes.items c.in_err-plan.field-0.0 c.from_residual-in_err-plan.result c.deref.ensures.value
    c.in_ok-bytes.ensures.plan
    c.in_err-plan.ensures.only c.from_residual-in_err-plan.ensures.1

pub returns-clause-valid : goal.returns-clause-valid
returns-clause-valid c =
    subst (λ (bytes : List ℕ). AreFaultless bytes)
    (sym c.deref.ensures.value) c.in_ok-bytes.ensures.faultless (plan_value c.in_ok-plan.plan) c.in_ok-plan.ensures.found
