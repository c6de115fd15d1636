use Rattle.av1_planwrite.proofs.BarePlans.{bare_is_plan}
use Rattle.av1_planwrite.proofs.laws.a_bare_plan_is_a_plan.Goals as goal

pub returns : goal.returns
returns c = bare_is_plan
