use Rattle.av1_plan.proofs.Versions.{second_keeps_first}
use Rattle.av1_plan.proofs.laws.the_second_version_keeps_the_first.Goals as goal

pub returns : goal.returns
returns c = second_keeps_first
