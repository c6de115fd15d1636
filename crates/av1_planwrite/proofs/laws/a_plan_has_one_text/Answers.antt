use Rattle.av1_planwrite.proofs.PlanTexts.{plan_told}
use Rattle.av1_planwrite.proofs.laws.a_plan_has_one_text.Goals as goal

pub returns : goal.returns
returns c = plan_told
