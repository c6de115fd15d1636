use Rattle.av1_plan.proofs.ReadPlans.{read_leaves}
use Rattle.av1_plan.proofs.CodingOrder.{plan_order}
use Rattle.av1_plan.proofs.plan.Plan.leaves.Goals as goal

pub returns-clause-read : goal.returns-clause-read
returns-clause-read c = read_leaves c.args.self.now

pub returns-clause-order : goal.returns-clause-order
returns-clause-order c = plan_order c.args.self.now
