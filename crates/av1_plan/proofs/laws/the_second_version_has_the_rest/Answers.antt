use Rattle.av1_plan.proofs.Versions.{second_has_rest}
use Rattle.av1_plan.proofs.laws.the_second_version_has_the_rest.Goals as goal

pub returns : goal.returns
returns c = second_has_rest
