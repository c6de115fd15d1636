use Rattle.av1_planwrite.proofs.BarePlans.{bare_is_valid}
use Rattle.av1_planwrite.proofs.laws.a_bare_plan_is_valid.Goals as goal

pub returns : goal.returns
returns c = bare_is_valid
