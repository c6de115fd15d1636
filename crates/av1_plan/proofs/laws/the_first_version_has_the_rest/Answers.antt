use Rattle.av1_plan.proofs.Versions.{first_has_rest}
use Rattle.av1_plan.proofs.laws.the_first_version_has_the_rest.Goals as goal

pub returns : goal.returns
returns c = first_has_rest
