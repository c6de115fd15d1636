use Rattle.av1_plan.proofs.Shown.{earlier_show_all}
use Rattle.av1_plan.proofs.laws.earlier_versions_show_what_is_coded.Goals as goal

pub returns : goal.returns
returns c = earlier_show_all
