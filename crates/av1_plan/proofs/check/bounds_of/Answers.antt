use Rattle.av1_plan.proofs.Signed.{limit_is}
use Rattle.av1_plan.proofs.check.bounds_of.Goals as goal

pub returns-clause-limit : goal.returns-clause-limit
returns-clause-limit c = limit_is c.args.depth c.requires
