use Rattle.av1_plan.proofs.ReadPlans.{read_frame}
use Rattle.av1_plan.proofs.plan.Plan.header.Goals as goal

pub returns-clause-read : goal.returns-clause-read
returns-clause-read c = read_frame c.args.self.now
