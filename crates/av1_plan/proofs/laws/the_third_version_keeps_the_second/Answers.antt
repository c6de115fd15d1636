use Rattle.av1_plan.proofs.Versions.{third_keeps_second}
use Rattle.av1_plan.proofs.laws.the_third_version_keeps_the_second.Goals as goal

pub returns : goal.returns
returns c = third_keeps_second
