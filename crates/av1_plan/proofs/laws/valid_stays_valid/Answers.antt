use Rattle.av1_plan.proofs.ValidVersions.{valid_stays_valid}
use Rattle.av1_plan.proofs.laws.valid_stays_valid.Goals as goal

pub returns : goal.returns
returns c = valid_stays_valid
